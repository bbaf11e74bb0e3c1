-- Values (GraphQL October 2021, 2.9): their trees, the symbols that they are written with, and how they are read.
use Rattle.std.specs.Prelude.{ℕ, zero, suc, ◌-◌, ◌≡◌, Bool, true, false, ℤ, List, [], ◌∷◌, ◌++◌, Option, None, Some, codes, if◌then◌else◌}
use Rattle.std.specs.Str.{bytes_eq}
use Rattle.gql_base.specs.declared.lexical.token.TokenKind.TheVariants.{Dollar, Colon, OpenBracket, CloseBracket, OpenBrace, CloseBrace}
use Rattle.gql_base.specs.ways.Symbols.{Symbol, punctuator, identifier, integer, decimal, string}
use Rattle.gql_base.specs.ways.Reading.{Reader, Test, Taking, takes, single, pair, image, choice, repeated, second, opener, level, exact, Identifier, any_name, up_to}
use Rattle.gql_base.specs.ways.Grammar.{Nested, Bracketed}

mutual
  pub data ValueTree : Type 0 where
    variable_value : (name : List ℕ) (at : ℕ) → ValueTree
    integer_value : ℤ → ValueTree
    -- a float, as it is written
    float_value : (bytes : List ℕ) → ValueTree
    string_value : List ℕ → ValueTree
    boolean_value : Bool → ValueTree
    null_value : ValueTree
    enum_value : (name : List ℕ) (at : ℕ) → ValueTree
    list_value : ValueTrees → ValueTree
    object_value : FieldTrees → ValueTree

  pub data ValueTrees : Type 0 where
    no_value : ValueTrees
    value_then : ValueTree → ValueTrees → ValueTrees

  -- the fields of an object, or arguments: names with their offsets, and values
  pub data FieldTrees : Type 0 where
    no_field : FieldTrees
    field_then : (name : List ℕ) (at : ℕ) → ValueTree → FieldTrees → FieldTrees

-- the value that a name is
abbrev pub value_of_name : List ℕ → ℕ → ValueTree
value_of_name name at =
    if bytes_eq name (codes "true") then boolean_value true
    else if bytes_eq name (codes "false") then boolean_value false
    else if bytes_eq name (codes "null") then null_value
    else enum_value name at

-- the value that one symbol is
abbrev pub literal : Taking ValueTree
literal (identifier name at) = Some (value_of_name name at)
literal (integer value) = Some (integer_value value)
literal (decimal bytes) = Some (float_value bytes)
literal (string value) = Some (string_value value)
literal (punctuator kind) = None

-- These symbols are the value, where d levels are open. A constant holds no variable.
unfoldable mutual
  pub IsValue : Bool → ℕ → ValueTree → Nested → Type 0
  IsValue constant d (variable_value name at) ws = (constant ≡ false) × (ws ≡ (punctuator Dollar, d) ∷ (identifier name at, d) ∷ [])
  IsValue constant d (integer_value n) ws = (w : Symbol) × (ws ≡ (w, d) ∷ []) × (literal w ≡ Some (integer_value n))
  IsValue constant d (float_value bytes) ws = (w : Symbol) × (ws ≡ (w, d) ∷ []) × (literal w ≡ Some (float_value bytes))
  IsValue constant d (string_value s) ws = (w : Symbol) × (ws ≡ (w, d) ∷ []) × (literal w ≡ Some (string_value s))
  IsValue constant d (boolean_value b) ws = (w : Symbol) × (ws ≡ (w, d) ∷ []) × (literal w ≡ Some (boolean_value b))
  IsValue constant d null_value ws = (w : Symbol) × (ws ≡ (w, d) ∷ []) × (literal w ≡ Some null_value)
  IsValue constant d (enum_value name at) ws = (w : Symbol) × (ws ≡ (w, d) ∷ []) × (literal w ≡ Some (enum_value name at))
  IsValue constant d (list_value values) ws = Bracketed OpenBracket CloseBracket d (AreValues constant (suc d) values) ws
  IsValue constant d (object_value fields) ws = Bracketed OpenBrace CloseBrace d (AreFields constant (suc d) fields) ws

  pub AreValues : Bool → ℕ → ValueTrees → Nested → Type 0
  AreValues constant d no_value ws = ws ≡ []
  AreValues constant d (value_then v others) ws = (f g : Nested) × (ws ≡ f ++ g) × IsValue constant d v f × AreValues constant d others g

  pub AreFields : Bool → ℕ → FieldTrees → Nested → Type 0
  AreFields constant d no_field ws = ws ≡ []
  AreFields constant d (field_then name at v others) ws = (f g : Nested) × (ws ≡ ((identifier name at, d) ∷ (punctuator Colon, d) ∷ f) ++ g) × IsValue constant d v f × AreFields constant d others g

-- reading

abbrev pub values_from : List ValueTree → ValueTrees
values_from [] = no_value
values_from (v ∷ vs) = value_then v (values_from vs)

-- a name with its offset, and a value
abbrev pub NamedValue : Type 0
NamedValue = Identifier × ValueTree

abbrev pub fields_from : List NamedValue → FieldTrees
fields_from [] = no_field
fields_from (f ∷ fs) = field_then f.0.0 f.0.1 f.1 (fields_from fs)

abbrev pub list_of : List ValueTree × Unit {0} → ValueTree
list_of p = list_value (values_from p.0)

abbrev pub object_of : List NamedValue × Unit {0} → ValueTree
object_of p = object_value (fields_from p.0)

abbrev pub named_value_of : Identifier × (Unit {0} × ValueTree) → NamedValue
named_value_of p = (p.0, p.1.1)

abbrev pub variable_of : Unit {0} × Identifier → ValueTree
variable_of p = variable_value p.1.0 p.1.1

-- a name, a colon and a value
abbrev pub named_value_at : Reader ValueTree → Reader NamedValue
named_value_at value = image named_value_of (pair (single any_name) (pair (single (exact Colon)) value))

abbrev pub in_list : Reader ValueTree → Reader ValueTree
in_list value = image list_of (pair (repeated (up_to CloseBracket) value) (single (exact CloseBracket)))

abbrev pub in_object : Reader ValueTree → Reader ValueTree
in_object value = image object_of (pair (repeated (up_to CloseBrace) (named_value_at value)) (single (exact CloseBrace)))

abbrev pub variable_at : Reader ValueTree
variable_at = image variable_of (pair (single (exact Dollar)) (single any_name))

abbrev pub takes_variable : Bool → Test
takes_variable constant w = if constant then false else takes (exact Dollar) w

-- a value without brackets
abbrev pub simple_at : Bool → Reader ValueTree
simple_at constant = choice (takes_variable constant) variable_at (single literal)

abbrev pub value_with : Bool → Option (Reader ValueTree) → Option (Reader ValueTree) → Reader ValueTree
value_with constant list object = choice (takes (exact OpenBracket)) (level (exact OpenBracket) list) (choice (takes (exact OpenBrace)) (level (exact OpenBrace) object) (simple_at constant))

-- a value, where so many levels may still be opened
unfoldable pub value_at : Bool → ℕ → Reader ValueTree
value_at constant zero = value_with constant None None
value_at constant (suc left) = value_with constant (Some (in_list (value_at constant left))) (Some (in_object (value_at constant left)))

-- a list and an object, where so many levels may still be opened
unfoldable pub list_at : Bool → ℕ → Reader ValueTree
list_at constant left = image second (pair (opener (exact OpenBracket) left) (in_list (value_at constant (left - 1))))

unfoldable pub object_at : Bool → ℕ → Reader ValueTree
object_at constant left = image second (pair (opener (exact OpenBrace) left) (in_object (value_at constant (left - 1))))
