-- Selections without directives, without those that are left out, and without those that are written like one before, where the values
-- of variables are these.
use Rattle.std.specs.Prelude.{◌≡◌, ◌⊎◌, ℕ, true, false, List, [], ◌∷◌, Option, None, Some}
use Rattle.gql_base.specs.ways.Reading.{Identifier}
use Rattle.document_reader.specs.Documents.{FieldNames, SelectionTree, field_selection, fragment_spread, inline_fragment, SelectionTrees, no_selection, selection_then}
use Rattle.input_values.specs.coercion.Literals.{Environment}
use Rattle.document_rules.specs.Parts.{FragmentData}
use Rattle.document_rules.specs.Sites.{name_of_field}
use Rattle.plan_model.specs.SelectedFields.{Setting}
use Rattle.plan_model.specs.Collecting.{is_included}
use Rattle.plan_model.specs.Merging.{Position}
use Rattle.plan_model.specs.GivenAlike.{AreGivenSame}

-- ---- names, wherever they stand

abbrev pub IsSameName : Identifier → Identifier → Type 0
IsSameName name other = name.0 ≡ other.0

-- one response key and one name
abbrev pub AreSameNames : FieldNames → FieldNames → Type 0
AreSameNames names others = IsSameName names.0 others.0 × IsSameName (name_of_field names) (name_of_field others)

abbrev pub IsSameType : Option Identifier → Option Identifier → Type 0
IsSameType None None = Unit {0}
IsSameType None (Some other) = ⊥
IsSameType (Some on) None = ⊥
IsSameType (Some on) (Some other) = IsSameName on other

-- ---- selections

abbrev pub HasSelection : (SelectionTree → Type 0) → SelectionTrees → Type 0
HasSelection P no_selection = ⊥
HasSelection P (selection_then t ts) = P t ⊎ HasSelection P ts

-- The selection is left out by its directives, or one that was kept serves for it.
abbrev pub GoesBeside : Environment → SelectionTrees → SelectionTree → (SelectionTree → Type 0) → Type 0
GoesBeside values kept s serves = (is_included values s ≡ false) ⊎ HasSelection serves kept

module _ (values : Environment) where
  abbrev mutual
    -- The second selection is the first without directives, where what stands below it is shortened.
    pub Shortens : SelectionTree → SelectionTree → Type 0
    Shortens (field_selection names arguments directives below) (field_selection others given marks inside) = (AreSameNames names others × AreGivenSame values arguments given) × ((marks ≡ []) × Keeps no_selection below inside)
    Shortens (field_selection names arguments directives below) (fragment_spread other marks) = ⊥
    Shortens (field_selection names arguments directives below) (inline_fragment other marks inside) = ⊥
    Shortens (fragment_spread name directives) (field_selection others given marks inside) = ⊥
    Shortens (fragment_spread name directives) (fragment_spread other marks) = IsSameName name other × (marks ≡ [])
    Shortens (fragment_spread name directives) (inline_fragment other marks inside) = ⊥
    Shortens (inline_fragment on directives below) (field_selection others given marks inside) = ⊥
    Shortens (inline_fragment on directives below) (fragment_spread other marks) = ⊥
    Shortens (inline_fragment on directives below) (inline_fragment other marks inside) = IsSameType on other × ((marks ≡ []) × Keeps no_selection below inside)

    -- Behind those that were kept, the second selections are the first ones, shortened and without those that go.
    pub Keeps : SelectionTrees → SelectionTrees → SelectionTrees → Type 0
    Keeps kept no_selection no_selection = Unit {0}
    Keeps kept no_selection (selection_then t ts) = ⊥
    Keeps kept (selection_then s ss) no_selection = GoesBeside values kept s (λ u. Shortens s u) × Keeps kept ss no_selection
    Keeps kept (selection_then s ss) (selection_then t ts) = (((is_included values s ≡ true) × Shortens s t) × Keeps (selection_then t kept) ss ts) ⊎ (GoesBeside values kept s (λ u. Shortens s u) × Keeps kept ss (selection_then t ts))

  -- The second selections are the first ones, shortened.
  abbrev pub AreShortened : SelectionTrees → SelectionTrees → Type 0
  AreShortened below inside = Keeps no_selection below inside

  abbrev pub IsShortenedFragment : FragmentData → FragmentData → Type 0
  IsShortenedFragment f g = (IsSameName f.name g.name × IsSameName f.on g.on) × AreShortened f.below g.below

  -- the same of fragments, one after the other
  abbrev pub AreShortenedFragments : List FragmentData → List FragmentData → Type 0
  AreShortenedFragments [] [] = Unit {0}
  AreShortenedFragments [] (g ∷ gs) = ⊥
  AreShortenedFragments (f ∷ fs) [] = ⊥
  AreShortenedFragments (f ∷ fs) (g ∷ gs) = IsShortenedFragment f g × AreShortenedFragments fs gs

-- ---- settings and positions

abbrev pub with_fragments : Setting → List FragmentData → Setting
with_fragments e fragments = record e { fragments = fragments }

-- selections that are written on a type, to which nothing is handed down
abbrev pub position_on : ℕ → SelectionTrees → Position
position_on root selections = record { selections = (Some root, selections) ∷ []; handed = None }

-- The second selections and fragments are those of the setting, shortened.
pub record IsShorter (e : Setting) (selections : SelectionTrees) (fragments : List FragmentData) (others : SelectionTrees) : Type 0 where
  pub below : AreShortened e.values selections others
  pub inside : AreShortenedFragments e.values e.fragments fragments
