-- Selection sets that are ready to be walked.
use Rattle.std.specs.Prelude.{◌≡◌, ℕ, true, length, List, [], ◌∷◌, ◌++◌, map, option_map, slice_get, Option, None, Some}
use Rattle.gql_base.specs.ways.Reading.{Identifier}
use Rattle.gql_base.specs.names.Names.{place_of_name}
use Rattle.gql_base.specs.parts.Arguments.{DirectiveTree}
use Rattle.document_reader.specs.Documents.{SelectionTree, inline_fragment}
use Rattle.document_reader.specs.DocumentReading.{selections_from}
use Rattle.document_reader.specs.Trees.{selection_tree}
use Rattle.schema_model.specs.Numbers.{type_number}
use Rattle.schema_model.specs.SchemaData.{SchemaData, type_named}
use Rattle.document_rules.specs.Parts.{FragmentData, fragment_data, fragment_name}
use Rattle.plan_model.specs.SelectedFields.{Setting}
use Rattle.plan_model.specs.Collecting.{WrittenSelections, written_in, is_included}
use Rattle.plan_model.specs.Merging.{selections_below}
use Rattle.collected_fields.specs.declared.tables.SelectionList.{SelectionList}
use Rattle.collected_fields.specs.declared.tables.Entry.{Entry}
use Rattle.collected_fields.specs.declared.source.Reached.{Reached}
use Rattle.collected_fields.specs.Steps.{StepData, field_step, spread_step, inline_step, step_data, StandsFor}

abbrev pub reached_fragment : Reached → FragmentData
reached_fragment r = fragment_data r.fragment.now

-- a selection set with the type on which it is written, and its steps
pub record ListData : Type 0 where
  pub parent : Option ℕ
  pub selections : List SelectionTree
  pub steps : List StepData

abbrev pub list_data : SelectionList → ListData
list_data l = record { parent = option_map type_number l.parent; selections = map selection_tree l.written.now; steps = map step_data l.steps.items }

abbrev pub written_of : ListData → WrittenSelections
written_of l = (l.parent, selections_from l.selections)

-- the number of a fragment's type, and that of its selections
abbrev pub EntryData : Type 0
EntryData = Option ℕ × ℕ

abbrev pub entry_data : Entry → EntryData
entry_data entry = (option_map type_number entry.on, entry.list)

abbrev pub steps_in : Option ListData → List StepData
steps_in None = []
steps_in (Some l) = l.steps

-- The selection set of this number is this one.
abbrev pub IsListed : List ListData → WrittenSelections → ℕ → Type 0
IsListed lists written number = slice_get (map written_of lists) number ≡ Some written

-- Each field has the number of its own selections.
abbrev pub AreListed : Setting → List ListData → List StepData → Type 0
AreListed e lists [] = Unit {0}
AreListed e lists (field_step f below ∷ xs) = IsListed lists (selections_below e f) below × AreListed e lists xs
AreListed e lists (spread_step number ∷ xs) = AreListed e lists xs
AreListed e lists (inline_step on count ∷ xs) = AreListed e lists xs

-- The steps of some selection sets are those of their selections, where the fields have numbers among all.
abbrev pub ArePrepared : Setting → List ListData → List ListData → Type 0
ArePrepared e all [] = Unit {0}
ArePrepared e all (l ∷ lists) = (StandsFor e [] l.parent l.selections l.steps × AreListed e all l.steps) × ArePrepared e all lists

-- Some selection sets are put behind others.
pub record Grows (e : Setting) (old new : List ListData) : Type 0 where
  pub more : List ListData
  pub grown : new ≡ old ++ more
  pub prepared : ArePrepared e new more

-- a selection set that is put behind others gets this number
pub record Lists (e : Setting) (written : WrittenSelections) (old new : List ListData) (number : ℕ) : Type 0 where
  pub lists : Grows e old new
  pub there : IsListed new written number

-- Steps are made for selections that are written on a type.
pub record Prepares (e : Setting) (parent : Option ℕ) (selections : List SelectionTree) (old new : List ListData) (steps : List StepData) : Type 0 where
  pub stands : StandsFor e [] parent selections steps
  pub listed : AreListed e new steps
  pub lists : Grows e old new

-- Steps for one selection are put behind others.
pub record Adds (e : Setting) (parent : Option ℕ) (selection : SelectionTree) (old new : List ListData) (before after : List StepData) : Type 0 where
  pub steps : List StepData
  pub grown : after ≡ before ++ steps
  pub stands : StandsFor e before parent (selection ∷ []) steps
  pub listed : AreListed e new steps
  pub lists : Grows e old new

abbrev pub entry_seen : List ListData → EntryData → Option ℕ × Option WrittenSelections
entry_seen lists entry = (entry.0, slice_get (map written_of lists) entry.1)

abbrev pub entry_wanted : SchemaData → FragmentData → Option ℕ × Option WrittenSelections
entry_wanted s f = (type_named s f.on.0, Some (written_in s f))

-- The entries are those of these fragments.
abbrev pub AreEntries : SchemaData → List ListData → List EntryData → List FragmentData → Type 0
AreEntries s lists entries fragments = map (entry_seen lists) entries ≡ map (entry_wanted s) fragments

pub record AreSound (e : Setting) (lists : List ListData) (entries : List EntryData) : Type 0 where
  pub prepared : ArePrepared e lists lists
  pub entered : AreEntries e.schema lists entries e.fragments

-- ---- steps of one selection

abbrev pub spread_steps : Option ℕ → List StepData
spread_steps None = []
spread_steps (Some number) = spread_step number ∷ []

-- the fragment of a name
abbrev pub steps_of_spread : Setting → List ℕ → List StepData
steps_of_spread e name = spread_steps (place_of_name fragment_name e.fragments name)

abbrev pub conditional_steps : Option ℕ → List StepData → List StepData
conditional_steps None steps = []
conditional_steps (Some on) steps = inline_step on (length steps) ∷ steps

-- steps for the objects alone to which the type of a name applies
abbrev pub steps_where : SchemaData → List ℕ → List StepData → List StepData
steps_where s name steps = conditional_steps (type_named s name) steps

abbrev pub steps_of_inline : SchemaData → Option Identifier → List StepData → List StepData
steps_of_inline s None steps = steps
steps_of_inline s (Some on) steps = steps_where s on.0 steps

-- Steps for an inline fragment that isn't left out are put behind others.
abbrev pub AddsInline : Setting → Option ℕ → Option Identifier → List SelectionTree → List ListData → List ListData → List StepData → List StepData → Type 0
AddsInline e parent on selections old new before after = (directives : List DirectiveTree) → is_included e.values (inline_fragment on directives (selections_from selections)) ≡ true → Adds e parent (inline_fragment on directives (selections_from selections)) old new before after

-- The selections of a fragment are put behind other selection sets.
pub record EntersFragment (e : Setting) (f : FragmentData) (old new : List ListData) (entry : EntryData) : Type 0 where
  pub lists : Grows e old new
  pub seen : entry_seen new entry ≡ entry_wanted e.schema f
