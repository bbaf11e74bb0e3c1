use Rattle.std.proofs.Common.{◌≡◌, map, take}
use Rattle.std.specs.Prelude.{option_map}
use Rattle.document_reader.specs.Trees.{selection_tree}
use Rattle.schema_model.specs.Numbers.{type_number}
use Rattle.collected_fields.specs.Drafts.{source_setting, Knows}
use Rattle.collected_fields.specs.Prepared.{list_data}
use Rattle.collected_fields.specs.Steps.{step_data}
use Rattle.collected_fields.proofs.PrepareLaws.{Made}
use Rattle.collected_fields.proofs.prepare.+prepare.Given as goal

abbrev pub invariant-steps_of-loop-selection : goal.invariant-steps_of-loop-selection
invariant-steps_of-loop-selection l = record {
  made : Made (source_setting l.source) (option_map type_number l.fn.parent) (map selection_tree (take l.selection-index l.selections)) (map list_data l.fn.lists.items) (map list_data l.lists.items) (map step_data l.draft.steps.items);
  knows : Knows l.draft;
  parent : option_map type_number l.draft.parent ≡ option_map type_number l.fn.parent;
}
