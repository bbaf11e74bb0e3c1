-- Places in a schema text, as its faults name them.
use Rattle.std.specs.Prelude.{ℕ, List, [], ◌∷◌, ◌++◌, codes}

pub data PlaceTree : Type 0 where
  at_type : (name : List ℕ) → PlaceTree
  -- a field, an enum value or an input field
  at_field : (of : List ℕ) (name : List ℕ) → PlaceTree
  at_argument : (of : List ℕ) (field : List ℕ) (name : List ℕ) → PlaceTree
  at_directive : (name : List ℕ) → PlaceTree
  at_directive_argument : (directive : List ℕ) (name : List ℕ) → PlaceTree
  at_schema : PlaceTree

-- a name of something that stands in something else: `Type.field`
abbrev pub dotted : List ℕ → List ℕ → List ℕ
dotted of name = of ++ (46 ∷ name)

-- an argument of something: `field(argument)`
abbrev pub with_argument : List ℕ → List ℕ → List ℕ
with_argument of name = of ++ (40 ∷ (name ++ (41 ∷ [])))

-- the name of a directive: `@directive`
abbrev pub marked : List ℕ → List ℕ
marked name = 64 ∷ name

abbrev pub place_text : PlaceTree → List ℕ
place_text (at_type name) = name
place_text (at_field of name) = dotted of name
place_text (at_argument of field name) = with_argument (dotted of field) name
place_text (at_directive name) = marked name
place_text (at_directive_argument directive name) = with_argument (marked directive) name
place_text at_schema = codes "schema"
