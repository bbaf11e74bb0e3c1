-- Type references (GraphQL October 2021, 2.11): their trees, the symbols that they are written with, and how they are read.
use Rattle.std.specs.Prelude.{ℕ, zero, suc, ◌-◌, ◌≡◌, Bool, true, false, List, [], ◌∷◌, ◌++◌, Option, None, Some}
use Rattle.gql_base.specs.declared.lexical.token.TokenKind.TheVariants.{Bang, OpenBracket, CloseBracket}
use Rattle.gql_base.specs.ways.Symbols.{punctuator, identifier, integer, decimal, string}
use Rattle.gql_base.specs.ways.Reading.{Reader, Taking, takes, single, pair, image, choice, empty, second, opener, level, exact}
use Rattle.gql_base.specs.ways.Grammar.{Nested, Bracketed}

pub data TypeTree : Type 0 where
  named_type : (name : List ℕ) (at : ℕ) → TypeTree
  list_type : TypeTree → TypeTree
  non_null_type : TypeTree → TypeTree

abbrev pub IsNullable : TypeTree → Type 0
IsNullable (named_type name at) = Unit {0}
IsNullable (list_type t) = Unit {0}
IsNullable (non_null_type t) = ⊥

-- These symbols are the type, where d levels are open. A non-null type is a nullable one and a `!`.
unfoldable pub IsType : ℕ → TypeTree → Nested → Type 0
IsType d (named_type name at) ws = ws ≡ (identifier name at, d) ∷ []
IsType d (list_type t) ws = Bracketed OpenBracket CloseBracket d (IsType (suc d) t) ws
IsType d (non_null_type t) ws = IsNullable t × (f : Nested) × (ws ≡ f ++ ((punctuator Bang, d) ∷ [])) × IsType d t f

-- reading

abbrev pub type_name : Taking TypeTree
type_name (identifier name at) = Some (named_type name at)
type_name (punctuator kind) = None
type_name (integer value) = None
type_name (decimal bytes) = None
type_name (string value) = None

abbrev pub listed_type : TypeTree × Unit {0} → TypeTree
listed_type p = list_type p.0

abbrev pub there : Unit {0} → Bool
there u = true

abbrev pub with_bang : TypeTree × Bool → TypeTree
with_bang (t, true) = non_null_type t
with_bang (t, false) = t

-- whether there is a `!`
abbrev pub bang_at : Reader Bool
bang_at = choice (takes (exact Bang)) (image there (single (exact Bang))) (empty false)

abbrev pub in_list_type : Reader TypeTree → Reader TypeTree
in_list_type inner = image listed_type (pair inner (single (exact CloseBracket)))

-- a type up to its `!`
abbrev pub nullable_with : Option (Reader TypeTree) → Reader TypeTree
nullable_with list = choice (takes (exact OpenBracket)) (level (exact OpenBracket) list) (single type_name)

abbrev pub type_with : Option (Reader TypeTree) → Reader TypeTree
type_with list = image with_bang (pair (nullable_with list) bang_at)

-- a type, where so many levels may still be opened
unfoldable pub type_at : ℕ → Reader TypeTree
type_at zero = type_with None
type_at (suc left) = type_with (Some (in_list_type (type_at left)))

-- a type up to its `!`, and a list type, where so many levels may still be opened
unfoldable pub nullable_at : ℕ → Reader TypeTree
nullable_at zero = nullable_with None
nullable_at (suc left) = nullable_with (Some (in_list_type (type_at left)))

unfoldable pub list_type_at : ℕ → Reader TypeTree
list_type_at left = image second (pair (opener (exact OpenBracket) left) (in_list_type (type_at (left - 1))))
