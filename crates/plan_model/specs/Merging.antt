-- The fields of one response key are one entry of an object. The first of them says what it is, and their selections together
-- are what stands below it (MergeSelectionSets; GraphQL October 2021, 6.4.3).
use Rattle.std.specs.Prelude.{ℕ, Bool, List, [], ◌∷◌, map, filter, if◌then◌else◌}
use Rattle.std.specs.List.{list_any}
use Rattle.std.specs.Str.{bytes_eq}
use Rattle.response_model.specs.Plan.{Selected}
use Rattle.plan_model.specs.SelectedFields.{Setting, FieldCall, HandedSize, form_at, size_at, hands_at, weight_at, cost_at, written_below, is_asked}
use Rattle.plan_model.specs.Collecting.{CollectedField, WrittenSelections, collected}

-- A position: selections that stand at one place, and the size that is handed down to their fields.
pub record Position : Type 0 where
  pub selections : List WrittenSelections
  pub handed : HandedSize

-- the response keys that were not seen, in the order in which each first stands
abbrev pub keys_from : List (List ℕ) → List CollectedField → List (List ℕ)
keys_from seen [] = []
keys_from seen (f ∷ fields) = if list_any (bytes_eq f.key) seen then keys_from seen fields else f.key ∷ keys_from (f.key ∷ seen) fields

abbrev pub keys_of : List CollectedField → List (List ℕ)
keys_of fields = keys_from [] fields

abbrev pub has_key : List ℕ → CollectedField → Bool
has_key key f = bytes_eq f.key key

abbrev pub fields_of_key : List ℕ → List CollectedField → List CollectedField
fields_of_key key fields = filter (has_key key) fields

abbrev pub no_call : FieldCall
no_call = record { name = []; arguments = [] }

abbrev pub first_call : List CollectedField → FieldCall
first_call [] = no_call
first_call (f ∷ fields) = f.call

abbrev pub selections_below : Setting → CollectedField → WrittenSelections
selections_below e f = (written_below e.schema f.parent f.call, f.below)

abbrev pub asks : Setting → CollectedField → Bool
asks e f = is_asked e.schema f.parent f.call

-- In these the fields are those of one key, for objects of the type T.
module _ (e : Setting) (T : ℕ) where
  -- what stands below them
  abbrev pub position_below : List CollectedField → Position
  position_below fields = record { selections = map (selections_below e) fields; handed = hands_at e T (first_call fields) }

  abbrev pub selected_by : List ℕ → HandedSize → List CollectedField → Selected
  selected_by key handed fields = record {
    key = key;
    field = (first_call fields).name;
    asked = list_any (asks e) fields;
    form = form_at e T (first_call fields);
    size = size_at e T (first_call fields) handed;
    weight = weight_at e T (first_call fields);
    arguments = cost_at e T (first_call fields);
  }

  -- the fields of a position, its keys, and the fields of a key
  abbrev pub fields_at : Position → List CollectedField
  fields_at p = collected e T p.selections

  abbrev pub keys_at : Position → List (List ℕ)
  keys_at p = keys_of (fields_at p)

  abbrev pub fields_under : List ℕ → Position → List CollectedField
  fields_under key p = fields_of_key key (fields_at p)

  abbrev pub call_under : List ℕ → Position → FieldCall
  call_under key p = first_call (fields_under key p)

  abbrev pub selected_under : List ℕ → Position → Selected
  selected_under key p = selected_by key p.handed (fields_under key p)

  abbrev pub below_key : List ℕ → Position → Position
  below_key key p = position_below (fields_under key p)
