-- Schema texts (GraphQL October 2021, 3): their trees, and the symbols that they are written with.
use Rattle.std.specs.Prelude.{ℕ, ◌||◌, Bool, true, false, List, [], Option, None, Some, codes}
use Rattle.std.specs.Str.{bytes_eq}
use Rattle.gql_base.specs.declared.lexical.token.TokenKind.{TokenKind}
use Rattle.gql_base.specs.declared.lexical.token.TokenKind.TheVariants.{Amp, Colon, Equals, At, OpenParen, CloseParen, OpenBrace, CloseBrace, Pipe}
use Rattle.gql_base.specs.declared.parts.trees.OperationKind.{OperationKind}
use Rattle.gql_base.specs.ways.Symbols.{punctuator, identifier, integer, decimal, string}
use Rattle.gql_base.specs.ways.Reading.{Taking, exact, Identifier, any_name, any_string, keyword, second, inside, listed}
use Rattle.gql_base.specs.ways.Grammar.{Nested, Single, Pair, Image, Choice, Optional, Repeated, OneOrMore}
use Rattle.gql_base.specs.parts.Values.{ValueTree}
use Rattle.gql_base.specs.parts.TypeReferences.{TypeTree, IsType, there}
use Rattle.gql_base.specs.parts.Arguments.{DirectiveTree, AreDirectives, IsDefault}
use Rattle.gql_base.specs.parts.OperationKinds.{kind_word}

-- trees

-- a name without its offset
abbrev pub NameText : Type 0
NameText = List ℕ

abbrev pub Description : Type 0
Description = Option (List ℕ)

-- the kind of an operation and the name of its type
abbrev pub RootTree : Type 0
RootTree = OperationKind × NameText

-- an argument or an input field: its description, name, type, default and directives
abbrev pub InputDefTree : Type 0
InputDefTree = Description × NameText × TypeTree × Option ValueTree × List DirectiveTree

-- a field: its description, name, arguments, type and directives
abbrev pub FieldDefTree : Type 0
FieldDefTree = Description × NameText × List InputDefTree × TypeTree × List DirectiveTree

abbrev pub EnumValueTree : Type 0
EnumValueTree = Description × (NameText × List DirectiveTree)

pub data BodyTree : Type 0 where
  schema_body : (roots : List RootTree) → BodyTree
  scalar_body : BodyTree
  object_body : (interfaces : List NameText) (fields : List FieldDefTree) → BodyTree
  interface_body : (interfaces : List NameText) (fields : List FieldDefTree) → BodyTree
  union_body : (members : List NameText) → BodyTree
  enum_body : (values : List EnumValueTree) → BodyTree
  input_body : (fields : List InputDefTree) → BodyTree
  directive_body : (arguments : List InputDefTree) (repeatable : Bool) (locations : List NameText) → BodyTree

-- what a definition has after its description: a name, directives and a body
abbrev pub NamedBody : Type 0
NamedBody = NameText × List DirectiveTree × BodyTree

abbrev pub DefinitionTree : Type 0
DefinitionTree = Description × NamedBody

-- the grammar, with the number of open levels; constants hold no variables

abbrev pub name_of : Identifier → NameText
name_of n = n.0

abbrev pub IsName : ℕ → NameText → Nested → Type 0
IsName d = Image name_of (Single any_name d)

-- a description or none
abbrev pub IsDescription : ℕ → Description → Nested → Type 0
IsDescription d = Optional None (Image Some (Single any_string d))

-- a name after a punctuator
abbrev pub IsOtherName : TokenKind → ℕ → NameText → Nested → Type 0
IsOtherName mark d = Image second (Pair (Single (exact mark) d) (IsName d))

-- names with a punctuator between two of them, and before the first one or not
abbrev pub AreNames : TokenKind → ℕ → List NameText → Nested → Type 0
AreNames mark d = Image second (Pair (Optional tt (Single (exact mark) d)) (Image listed (Pair (IsName d) (Repeated (IsOtherName mark d)))))

-- one thing or more between two punctuators, which open no level
abbrev pub Between : {A : Type 0} → TokenKind → TokenKind → ℕ → (A → Nested → Type 0) → List A → Nested → Type 0
Between open_kind close_kind d S = Image inside (Pair (Single (exact open_kind) d) (Pair (OneOrMore S) (Single (exact close_kind) d)))

-- arguments and fields

abbrev pub input_of : Description × (NameText × (Unit {0} × (TypeTree × (Option ValueTree × List DirectiveTree)))) → InputDefTree
input_of p = (p.0, p.1.0, p.1.1.1.0, p.1.1.1.1.0, p.1.1.1.1.1)

abbrev pub IsInput : ℕ → InputDefTree → Nested → Type 0
IsInput d = Image input_of (Pair (IsDescription d) (Pair (IsName d) (Pair (Single (exact Colon) d) (Pair (IsType d) (Pair (Optional None (IsDefault d)) (AreDirectives true d))))))

abbrev pub AreArgumentDefinitions : ℕ → List InputDefTree → Nested → Type 0
AreArgumentDefinitions d = Between OpenParen CloseParen d (IsInput d)

abbrev pub AreInputFields : ℕ → List InputDefTree → Nested → Type 0
AreInputFields d = Between OpenBrace CloseBrace d (IsInput d)

abbrev pub field_of : Description × (NameText × (List InputDefTree × (Unit {0} × (TypeTree × List DirectiveTree)))) → FieldDefTree
field_of p = (p.0, p.1.0, p.1.1.0, p.1.1.1.1.0, p.1.1.1.1.1)

abbrev pub IsField : ℕ → FieldDefTree → Nested → Type 0
IsField d = Image field_of (Pair (IsDescription d) (Pair (IsName d) (Pair (Optional [] (AreArgumentDefinitions d)) (Pair (Single (exact Colon) d) (Pair (IsType d) (AreDirectives true d))))))

abbrev pub AreFieldDefinitions : ℕ → List FieldDefTree → Nested → Type 0
AreFieldDefinitions d = Between OpenBrace CloseBrace d (IsField d)

-- enum values

abbrev pub unless : {A : Type 0} → Bool → A → Option A
unless true a = None
unless false a = Some a

-- the name of an enum value: any name but `true`, `false` and `null`
abbrev pub enum_name : Taking NameText
enum_name (identifier bytes at) = unless (bytes_eq bytes (codes "true") || (bytes_eq bytes (codes "false") || bytes_eq bytes (codes "null"))) bytes
enum_name (punctuator kind) = None
enum_name (integer value) = None
enum_name (decimal bytes) = None
enum_name (string value) = None

abbrev pub IsEnumValue : ℕ → EnumValueTree → Nested → Type 0
IsEnumValue d = Pair (IsDescription d) (Pair (Single enum_name d) (AreDirectives true d))

abbrev pub AreEnumValues : ℕ → List EnumValueTree → Nested → Type 0
AreEnumValues d = Between OpenBrace CloseBrace d (IsEnumValue d)

-- the definition of the schema (3.3)

abbrev pub root_of : OperationKind × (Unit {0} × NameText) → RootTree
root_of p = (p.0, p.1.1)

abbrev pub IsRoot : ℕ → RootTree → Nested → Type 0
IsRoot d = Image root_of (Pair (Single kind_word d) (Pair (Single (exact Colon) d) (IsName d)))

-- it has no name
abbrev pub schema_of : Unit {0} × (List DirectiveTree × List RootTree) → NamedBody
schema_of p = ([], p.1.0, schema_body p.1.1)

abbrev pub IsSchemaDefinition : ℕ → NamedBody → Nested → Type 0
IsSchemaDefinition d = Image schema_of (Pair (Single (keyword (codes "schema")) d) (Pair (AreDirectives true d) (Between OpenBrace CloseBrace d (IsRoot d))))

-- definitions of types (3.5 to 3.10)

-- a name and directives
abbrev pub HeadTree : Type 0
HeadTree = NameText × List DirectiveTree

-- the word of the kind of type, and the head
abbrev pub IsTypeHead : List ℕ → ℕ → HeadTree → Nested → Type 0
IsTypeHead word d = Image second (Pair (Single (keyword word) d) (Pair (IsName d) (AreDirectives true d)))

abbrev pub scalar_of : HeadTree → NamedBody
scalar_of p = (p.0, p.1, scalar_body)

abbrev pub IsScalar : ℕ → NamedBody → Nested → Type 0
IsScalar d = Image scalar_of (IsTypeHead (codes "scalar") d)

abbrev pub AreInterfaces : ℕ → List NameText → Nested → Type 0
AreInterfaces d = Image second (Pair (Single (keyword (codes "implements")) d) (AreNames Amp d))

-- what an object type and an interface type have: a name, interfaces, directives and fields
abbrev pub FieldedTree : Type 0
FieldedTree = NameText × (List NameText × (List DirectiveTree × List FieldDefTree))

abbrev pub IsFieldedType : List ℕ → ℕ → FieldedTree → Nested → Type 0
IsFieldedType word d = Image second (Pair (Single (keyword word) d) (Pair (IsName d) (Pair (Optional [] (AreInterfaces d)) (Pair (AreDirectives true d) (Optional [] (AreFieldDefinitions d))))))

abbrev pub object_type_of : FieldedTree → NamedBody
object_type_of p = (p.0, p.1.1.0, object_body p.1.0 p.1.1.1)

abbrev pub IsObject : ℕ → NamedBody → Nested → Type 0
IsObject d = Image object_type_of (IsFieldedType (codes "type") d)

abbrev pub interface_of : FieldedTree → NamedBody
interface_of p = (p.0, p.1.1.0, interface_body p.1.0 p.1.1.1)

abbrev pub IsInterface : ℕ → NamedBody → Nested → Type 0
IsInterface d = Image interface_of (IsFieldedType (codes "interface") d)

abbrev pub AreMembers : ℕ → List NameText → Nested → Type 0
AreMembers d = Image second (Pair (Single (exact Equals) d) (AreNames Pipe d))

abbrev pub union_of : HeadTree × List NameText → NamedBody
union_of p = (p.0.0, p.0.1, union_body p.1)

abbrev pub IsUnion : ℕ → NamedBody → Nested → Type 0
IsUnion d = Image union_of (Pair (IsTypeHead (codes "union") d) (Optional [] (AreMembers d)))

abbrev pub enum_of : HeadTree × List EnumValueTree → NamedBody
enum_of p = (p.0.0, p.0.1, enum_body p.1)

abbrev pub IsEnum : ℕ → NamedBody → Nested → Type 0
IsEnum d = Image enum_of (Pair (IsTypeHead (codes "enum") d) (Optional [] (AreEnumValues d)))

abbrev pub input_object_of : HeadTree × List InputDefTree → NamedBody
input_object_of p = (p.0.0, p.0.1, input_body p.1)

abbrev pub IsInputObject : ℕ → NamedBody → Nested → Type 0
IsInputObject d = Image input_object_of (Pair (IsTypeHead (codes "input") d) (Optional [] (AreInputFields d)))

abbrev pub IsTypeDefinition : ℕ → NamedBody → Nested → Type 0
IsTypeDefinition d = Choice (IsScalar d) (Choice (IsObject d) (Choice (IsInterface d) (Choice (IsUnion d) (Choice (IsEnum d) (IsInputObject d)))))

-- definitions of directives (3.13)

-- whether `repeatable` stands there
abbrev pub IsRepeatable : ℕ → Bool → Nested → Type 0
IsRepeatable d = Optional false (Image there (Single (keyword (codes "repeatable")) d))

abbrev pub AreLocations : ℕ → List NameText → Nested → Type 0
AreLocations d = Image second (Pair (Single (keyword (codes "on")) d) (AreNames Pipe d))

-- it has no directives itself
abbrev pub directive_of : Unit {0} × (Unit {0} × (NameText × (List InputDefTree × (Bool × List NameText)))) → NamedBody
directive_of p = (p.1.1.0, [], directive_body p.1.1.1.0 p.1.1.1.1.0 p.1.1.1.1.1)

abbrev pub IsDirectiveDefinition : ℕ → NamedBody → Nested → Type 0
IsDirectiveDefinition d = Image directive_of (Pair (Single (keyword (codes "directive")) d) (Pair (Single (exact At) d) (Pair (IsName d) (Pair (Optional [] (AreArgumentDefinitions d)) (Pair (IsRepeatable d) (AreLocations d))))))

-- schema texts

-- A definition is one of the schema, of a directive or of a type, with a description or without.
unfoldable pub IsDefinition : ℕ → DefinitionTree → Nested → Type 0
IsDefinition d = Pair (IsDescription d) (Choice (IsSchemaDefinition d) (Choice (IsDirectiveDefinition d) (IsTypeDefinition d)))

-- A schema text is one definition or more.
unfoldable pub IsSchema : List DefinitionTree → Nested → Type 0
IsSchema = OneOrMore (IsDefinition 0)
