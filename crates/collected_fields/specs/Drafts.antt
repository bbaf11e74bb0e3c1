-- What making steps ready keeps.
use Rattle.std.specs.Prelude.{List, map, option_map, Option}
use Rattle.gql_base.specs.ways.Reading.{Identifier}
use Rattle.document_reader.specs.Documents.{SelectionTree}
use Rattle.schema_model.specs.Numbers.{type_number}
use Rattle.plan_model.specs.SelectedFields.{Setting}
use Rattle.collected_fields.specs.declared.source.Source.{Source}
use Rattle.collected_fields.specs.declared.steps.Draft.{Draft}
use Rattle.collected_fields.specs.Views.{setting_of_planning}
use Rattle.collected_fields.specs.Steps.{step_data, KnowsLeaves}
use Rattle.collected_fields.specs.Prepared.{ListData, reached_fragment, Adds, AddsInline}

-- the setting with the fragments by their index
abbrev pub source_setting : Source → Setting
source_setting source = record (setting_of_planning source.planning) { fragments = map reached_fragment source.fragments.now.items.items }

-- The leaves stand among the steps.
abbrev pub Knows : Draft → Type 0
Knows d = KnowsLeaves (option_map type_number d.parent) (map step_data d.steps.items) d.leaves

abbrev pub AddsTo : Setting → SelectionTree → List ListData → List ListData → Draft → Draft → Type 0
AddsTo e selection old new before after = Knows before → Adds e (option_map type_number before.parent) selection old new (map step_data before.steps.items) (map step_data after.steps.items) × Knows after

abbrev pub AddsInlineTo : Setting → Option Identifier → List SelectionTree → List ListData → List ListData → Draft → Draft → Type 0
AddsInlineTo e on selections old new before after = Knows before → AddsInline e (option_map type_number before.parent) on selections old new (map step_data before.steps.items) (map step_data after.steps.items) × Knows after
