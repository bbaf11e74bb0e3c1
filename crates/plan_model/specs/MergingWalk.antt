-- Collecting where each fragment is entered once for a position and a type, as the standard's CollectFields has it; and what
-- keeps fragments from coming back to themselves.
use Rattle.std.specs.Prelude.{◌≡◌, ◌<◌, Bool, ℕ, zero, suc, List, [], ◌∷◌, ◌++◌, Option, None, Some, if◌then◌else◌}
use Rattle.std.specs.List.{list_any}
use Rattle.std.specs.Str.{bytes_eq}
use Rattle.document_reader.specs.Documents.{SelectionTree, field_selection, fragment_spread, inline_fragment, SelectionTrees, no_selection, selection_then}
use Rattle.document_rules.specs.Parts.{FragmentData}
use Rattle.document_rules.specs.Sites.{name_of_field, below_inline}
use Rattle.plan_model.specs.SelectedFields.{Setting}
use Rattle.plan_model.specs.Collecting.{is_included, applies_by_name, applies_if_named, fragment_named, CollectedField, WrittenSelections, written_in, nesting}
use Rattle.plan_model.specs.Merging.{Position}
use Rattle.plan_model.specs.Repeats.{LeavesOutRepeats}

-- what the walk has entered, and what it has collected
pub record WalkState : Type 0 where
  pub entered : List (List ℕ)
  pub fields : List CollectedField

abbrev pub nothing_walked : WalkState
nothing_walked = record { entered = []; fields = [] }

abbrev pub is_entered : List ℕ → WalkState → Bool
is_entered name w = list_any (bytes_eq name) w.entered

module _ (e : Setting) (T : ℕ) where
  -- In these `spread` walks the fragment of a name.
  abbrev mutual
    pub walk_one : (List ℕ → WalkState → WalkState) → Option ℕ → SelectionTree → WalkState → WalkState
    walk_one spread parent (field_selection names arguments directives below) w =
        record w { fields = w.fields ++ (record { parent = parent; key = names.0.0; call = record { name = (name_of_field names).0; arguments = arguments }; below = below } ∷ []) }
    walk_one spread parent (fragment_spread name directives) w = spread name.0 w
    walk_one spread parent (inline_fragment on directives below) w = if applies_if_named e.schema T on then walk_all spread (below_inline e.schema parent on) below w else w

    pub walk_all : (List ℕ → WalkState → WalkState) → Option ℕ → SelectionTrees → WalkState → WalkState
    walk_all spread parent no_selection w = w
    walk_all spread parent (selection_then s others) w = walk_all spread parent others (if is_included e.values s then walk_one spread parent s w else w)

  abbrev pub walk_written : (List ℕ → WalkState → WalkState) → WrittenSelections → WalkState → WalkState
  walk_written spread written w = walk_all spread written.0 written.1 w

  abbrev pub walk_fragment : (List ℕ → WalkState → WalkState) → Option FragmentData → WalkState → WalkState
  walk_fragment spread None w = w
  walk_fragment spread (Some f) w = if applies_by_name e.schema T f.on.0 then walk_written spread (written_in e.schema f) w else w

  -- a fragment that was entered is passed over
  unfoldable pub walk_spread : ℕ → List ℕ → WalkState → WalkState
  walk_spread zero name w = w
  walk_spread (suc depth) name w = if is_entered name w then w else walk_fragment (walk_spread depth) (fragment_named e name) (record w { entered = name ∷ w.entered })

  abbrev pub walk_from : ℕ → List WrittenSelections → WalkState → WalkState
  walk_from depth [] w = w
  walk_from depth (s ∷ selections) w = walk_from depth selections (walk_written (walk_spread depth) s w)

  -- what is collected at a position
  abbrev pub walked : List WrittenSelections → List CollectedField
  walked selections = (walk_from (nesting e) selections nothing_walked).fields

-- ---- positions

-- The second position is the first, where selections are left out that stand before.
pub record IsShortened (p q : Position) : Type 0 where
  pub selections : LeavesOutRepeats p.selections q.selections
  pub handed : p.handed ≡ q.handed

-- ---- fragments by rank

-- Each spread names a fragment of a rank below the bound.
abbrev mutual
  pub OneRanked : (List ℕ → ℕ) → ℕ → SelectionTree → Type 0
  OneRanked rank bound (field_selection names arguments directives below) = AreRanked rank bound below
  OneRanked rank bound (fragment_spread name directives) = rank name.0 < bound
  OneRanked rank bound (inline_fragment on directives below) = AreRanked rank bound below

  pub AreRanked : (List ℕ → ℕ) → ℕ → SelectionTrees → Type 0
  AreRanked rank bound no_selection = Unit {0}
  AreRanked rank bound (selection_then s others) = OneRanked rank bound s × AreRanked rank bound others

abbrev pub AllRanked : (List ℕ → ℕ) → ℕ → List WrittenSelections → Type 0
AllRanked rank bound [] = Unit {0}
AllRanked rank bound (s ∷ selections) = AreRanked rank bound s.1 × AllRanked rank bound selections

-- The spreads of a fragment have ranks below its own, so that none comes back to itself.
abbrev pub FragmentsRanked : (List ℕ → ℕ) → Setting → Type 0
FragmentsRanked rank e = (name : List ℕ) (f : FragmentData) → fragment_named e name ≡ Some f → AreRanked rank (rank name) f.below

-- There are such ranks, and what the position spreads has ranks below the depth to which fragments may nest.
pub record IsAcyclic (e : Setting) (p : Position) : Type 0 where
  pub rank : List ℕ → ℕ
  pub fragments : FragmentsRanked rank e
  pub spreads : AllRanked rank (nesting e) p.selections
