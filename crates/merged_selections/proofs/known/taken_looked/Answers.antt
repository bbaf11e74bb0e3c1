use Rattle.merged_selections.specs.NodeParts.{handed_data}
use Rattle.merged_selections.proofs.LookedNodes.{all_taken}
use Rattle.merged_selections.proofs.known.taken_looked.Goals as goal

pub returns-then-is_same_handed : goal.returns-then-is_same_handed
returns-then-is_same_handed c = all_taken c.args.known.now (handed_data c.args.handed) c.as_slice.result.now c.copied_looked.result (c.is_same_handed.ensures c.if-is_same_handed.true) c.as_slice.ensures.value c.copied_looked.ensures
