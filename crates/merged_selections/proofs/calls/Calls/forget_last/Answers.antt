use Rattle.merged_selections.proofs.KeptCalls.{kept_fewer}
use Rattle.merged_selections.proofs.calls.Calls.forget_last.Goals as goal

pub returns : goal.returns
returns c = λ e kept. let fewer = kept_fewer e c.args.self.now.made.items c.pop-last.new.self.items c.clear.new.self.items c.pop-last.result c.pop-last.ensures.items kept.0 c.clear.ensures.items in (fewer.0, fewer.1, kept.2, tt)
