use Rattle.std.proofs.Common.{◌≡◌, ◌++◌, drop, map}
use Rattle.schema_model.specs.DraftViews.{input_view}
use Rattle.schema_rules.specs.Views.{named_kind}
use Rattle.schema_model.specs.Drafts.{input_draft}
use Rattle.schema_reader.specs.Trees.{input_tree}
use Rattle.schema_model.proofs.draft.draft_inputs.Given as goal

-- Those so far, and then those of what is left.
abbrev pub invariant-loop-input : goal.invariant-loop-input
invariant-loop-input l = map input_view l.drafts.items ++ map (input_draft (map named_kind l.types.items.now)) (map input_tree (drop l.input-index l.inputs)) ≡ map (input_draft (map named_kind l.types.items.now)) (map input_tree l.inputs)
