-- What the schema of schemas says of its fields (GraphQL October 2021, 4.2): on which types they are, how their values may be, and
-- what stands below them. Types have their numbers in it.
use Rattle.std.specs.Prelude.{ℕ, zero, suc, List, [], ◌∷◌, Bool, true, false, ◌||◌, ◌&&◌, Option, Some, None, codes, eqb}
use Rattle.std.specs.List.{list_any}
use Rattle.std.specs.Str.{bytes_eq}
use Rattle.serde_json.specs.Data.{Data, string, boolean}
use Rattle.response_model.specs.Plan.{Form, single, listed, LeafType, type_name, numbered}
use Rattle.schema_facts.specs.declared.table.What.{What}
use Rattle.schema_facts.specs.declared.table.What.TheVariants as what
use Rattle.schema_facts.specs.Table.{is_location}

-- how a field's values may be; a name is missing of types alone
abbrev pub form_of : ℕ → What → Form
form_of T what.Name = single (eqb T 2)
form_of T what.TypeName = single false
form_of T what.Schema = single false
form_of T (what.Named of) = single true
form_of T what.Description = single true
form_of T what.Types = listed false false
form_of T what.QueryType = single false
form_of T what.MutationType = single true
form_of T what.SubscriptionType = single true
form_of T what.Directives = listed false false
form_of T what.Kind = single false
form_of T (what.Fields all) = listed true false
form_of T what.Interfaces = listed true false
form_of T what.PossibleTypes = listed true false
form_of T (what.EnumValues all) = listed true false
form_of T what.InputFields = listed true false
form_of T what.OfType = single true
form_of T what.SpecifiedByUrl = single true
form_of T what.Args = listed false false
form_of T what.FieldType = single false
form_of T what.IsDeprecated = single false
form_of T what.DeprecationReason = single true
form_of T what.DefaultValue = single true
form_of T what.Locations = listed false false
form_of T what.IsRepeatable = single false

-- the object type below a field, if objects stand there
abbrev pub below_of : What → Option ℕ
below_of what.Schema = Some 1
below_of (what.Named of) = Some 2
below_of what.Types = Some 2
below_of what.QueryType = Some 2
below_of what.MutationType = Some 2
below_of what.SubscriptionType = Some 2
below_of what.Directives = Some 7
below_of (what.Fields all) = Some 4
below_of what.Interfaces = Some 2
below_of what.PossibleTypes = Some 2
below_of (what.EnumValues all) = Some 6
below_of what.InputFields = Some 5
below_of what.OfType = Some 2
below_of what.Args = Some 5
below_of what.FieldType = Some 2
below_of other = None

-- the type of a field's leaves: `__TypeKind` has the number 3, `__DirectiveLocation` 8, String 11 and Boolean 12
abbrev pub leaf_type_of : What → LeafType
leaf_type_of what.TypeName = type_name
leaf_type_of what.Kind = numbered 3
leaf_type_of what.Locations = numbered 8
leaf_type_of what.IsDeprecated = numbered 12
leaf_type_of what.IsRepeatable = numbered 12
leaf_type_of other = numbered 11

abbrev pub kind_names : List (List ℕ)
kind_names = codes "SCALAR" ∷ codes "OBJECT" ∷ codes "INTERFACE" ∷ codes "UNION" ∷ codes "ENUM" ∷ codes "INPUT_OBJECT" ∷ codes "LIST" ∷ codes "NON_NULL" ∷ []

abbrev pub holds_text : ℕ → List ℕ → Bool
holds_text T text = eqb T 11 || (eqb T 3 && list_any (bytes_eq text) kind_names || eqb T 8 && is_location text)

-- what the leaf types hold
abbrev pub holds : ℕ → Data → Bool
holds T (string text) = holds_text T text
holds T (boolean is) = eqb T 12
holds T json = false

-- whether the object type of a number has the field
abbrev pub is_of : ℕ → What → Bool
is_of T what.TypeName = true
is_of T what.Schema = eqb T 0
is_of T (what.Named of) = eqb T 0
is_of T what.Description = eqb T 1 || (eqb T 2 || (eqb T 4 || (eqb T 5 || (eqb T 6 || eqb T 7))))
is_of T what.Types = eqb T 1
is_of T what.QueryType = eqb T 1
is_of T what.MutationType = eqb T 1
is_of T what.SubscriptionType = eqb T 1
is_of T what.Directives = eqb T 1
is_of T what.Kind = eqb T 2
is_of T what.Name = eqb T 2 || (eqb T 4 || (eqb T 5 || (eqb T 6 || eqb T 7)))
is_of T (what.Fields all) = eqb T 2
is_of T what.Interfaces = eqb T 2
is_of T what.PossibleTypes = eqb T 2
is_of T (what.EnumValues all) = eqb T 2
is_of T what.InputFields = eqb T 2
is_of T what.OfType = eqb T 2
is_of T what.SpecifiedByUrl = eqb T 2
is_of T what.Args = eqb T 4 || eqb T 7
is_of T what.FieldType = eqb T 4 || eqb T 5
is_of T what.IsDeprecated = eqb T 4 || eqb T 6
is_of T what.DeprecationReason = eqb T 4 || eqb T 6
is_of T what.DefaultValue = eqb T 5
is_of T what.Locations = eqb T 7
is_of T what.IsRepeatable = eqb T 7

-- the names of the object types; that of the type of queries is the schema's own
abbrev pub meta_name : List ℕ → ℕ → List ℕ
meta_name query zero = query
meta_name query (suc zero) = codes "__Schema"
meta_name query (suc (suc zero)) = codes "__Type"
meta_name query (suc (suc (suc (suc zero)))) = codes "__Field"
meta_name query (suc (suc (suc (suc (suc zero))))) = codes "__InputValue"
meta_name query (suc (suc (suc (suc (suc (suc zero)))))) = codes "__EnumValue"
meta_name query (suc (suc (suc (suc (suc (suc (suc zero))))))) = codes "__Directive"
meta_name query other = []
