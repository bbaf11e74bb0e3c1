-- Selection sets that hold nothing but the spread of a fragment.
use Rattle.std.specs.Prelude.{◌≡◌, ◌<◌, ℕ, true, List}
use Rattle.gql_base.specs.ways.Reading.{Identifier}
use Rattle.gql_base.specs.parts.Arguments.{DirectiveTree}
use Rattle.document_reader.specs.Documents.{SelectionTree, fragment_spread, SelectionTrees, no_selection, selection_then}
use Rattle.input_values.specs.coercion.Literals.{Environment}
use Rattle.plan_model.specs.Collecting.{is_included, fields_spread, nesting}
use Rattle.plan_model.specs.Merging.{fields_at}
use Rattle.plan_model.specs.MergingWalk.{AllRanked}
use Rattle.collected_fields.specs.declared.collector.Collector.{Collector}
use Rattle.collected_fields.specs.Gathering.{setting_at, position_at}

-- The selection spreads the fragment of this name, and isn't left out.
pub record IsSpread (values : Environment) (s : SelectionTree) (name : List ℕ) : Type 0 where
  pub written : Identifier
  pub directives : List DirectiveTree
  pub spread : s ≡ fragment_spread written directives
  pub named : written.0 ≡ name
  pub included : is_included values (fragment_spread written directives) ≡ true

-- It is the only one.
abbrev pub IsSpreadAlone : Environment → SelectionTrees → List ℕ → Type 0
IsSpreadAlone values ss name = (s : SelectionTree) × ((ss ≡ selection_then s no_selection) × IsSpread values s name)

-- The selections of these numbers come to what the fragment of this name comes to, and are acyclic where it is.
pub record SpreadsAlone (c : Collector) (numbers name : List ℕ) : Type 0 where
  pub fields : (T : ℕ) → fields_at (setting_at c) T (position_at c numbers) ≡ fields_spread (setting_at c) T (nesting (setting_at c)) name
  pub above : (rank : List ℕ → ℕ) → AllRanked rank (nesting (setting_at c)) (position_at c numbers).selections → rank name < nesting (setting_at c)
  pub below : (rank : List ℕ → ℕ) → rank name < nesting (setting_at c) → AllRanked rank (nesting (setting_at c)) (position_at c numbers).selections
