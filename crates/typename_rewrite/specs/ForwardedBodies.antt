-- The body of the request in which an operation is sent (GraphQL over HTTP): a JSON object.
use Rattle.std.specs.Prelude.{◌≡◌, ◌≤◌, ℕ, Bool, false, List, [], ◌++◌, codes, map, Option, None, Some, if◌then◌else◌}
use Rattle.gql_base.specs.ways.Reading.{Identifier}
use Rattle.gql_base.specs.names.Names.{has_name}
use Rattle.document_reader.specs.declared.trees.Operation.{Operation}
use Rattle.document_reader.specs.Documents.{VariableTree}
use Rattle.document_reader.specs.Trees.{maybe_identifier, variable_tree}
use Rattle.response_model.specs.ResponseText.{key_text}
use Rattle.response_model.specs.WrittenJson.{IsValueText, Appends}
use Rattle.serde_json.specs.Read.{max_depth}
use Rattle.serde_json.specs.Written.{has_float, compact_text, comma_if}
use Rattle.serde_json.specs.Data.{Data, string, object, Members, no_members, member, depth}
use Rattle.typename_rewrite.specs.ReadJson.{IsAsRead}

abbrev pub members_of : Data → Members
members_of (object members) = members
members_of json = no_members

-- the members whose keys pass a test
abbrev pub members_where : (List ℕ → Bool) → Members → Members
members_where keeps no_members = no_members
members_where keeps (member key d members) = if keeps key then member key d (members_where keeps members) else members_where keeps members

abbrev pub variable_name : VariableTree → List ℕ
variable_name v = v.0.0

-- whether a variable of this name is defined
abbrev pub declares : List VariableTree → List ℕ → Bool
declares variables name = has_name variable_name variables name

-- what an operation is sent with: those of the given values whose variables it defines, as they are given
abbrev pub sent_variables : List VariableTree → Data → Members
sent_variables variables given = members_where (declares variables) (members_of given)

-- the document and the variables, behind the operation's name where it has one
abbrev pub body_with : Option Identifier → List ℕ → Members → Data
body_with None document variables = object (member (codes "query") (string document) (member (codes "variables") (object variables) no_members))
body_with (Some name) document variables = object (member (codes "operationName") (string name.0) (member (codes "query") (string document) (member (codes "variables") (object variables) no_members)))

unfoldable pub body_data : Operation → List ℕ → Data → Data
body_data o document given = body_with (maybe_identifier o.name) document (sent_variables (map variable_tree o.variables.items) given)

-- ---- pieces of the body's text

-- An object with these members was added: a text of it, where it comes from a reader, and the compact one, where no member holds a float.
pub record AppendsObject (before after : List ℕ) (members : Members) : Type 0 where
  pub written : IsAsRead (object members) → depth (object members) ≤ max_depth → Appends (IsValueText (object members)) before after
  pub text : has_float (object members) ≡ false → after ≡ before ++ compact_text (object members)

-- the operation's name as a member with a comma behind it, where the operation has a name
abbrev pub name_text : Option Identifier → List ℕ
name_text None = []
name_text (Some name) = (key_text (codes "operationName") ++ compact_text (string name.0)) ++ codes ","

-- a member, with a comma before it where another one stands before
abbrev pub member_text : Bool → List ℕ → Data → List ℕ
member_text later key d = comma_if later ++ (key_text key ++ compact_text d)

-- The same, where the value may hold a float.
abbrev pub IsMemberText : Bool → List ℕ → Data → List ℕ → Type 0
IsMemberText later key d text = (value : List ℕ) × IsValueText d value × (text ≡ comma_if later ++ (key_text key ++ value))

-- The text is one of the body, where that is as a reader has it.
abbrev pub IsWrittenBody : Data → List ℕ → Type 0
IsWrittenBody body text = IsAsRead body → depth body ≤ max_depth → IsValueText body text
