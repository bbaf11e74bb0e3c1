use Rattle.merged_selections.proofs.KeptCalls.{kept_more, built_more}
use Rattle.merged_selections.proofs.calls.Calls.put.Goals as goal

pub returns-clause-kept : goal.returns-clause-kept
returns-clause-kept c = λ e kept own.
    let more = kept_more e c.args.self.now.made.items c.push.new.self.items c.args.self.now.equal.items c.args.call c.in_ok-push.ensures.items kept.0 kept.1 own in
    (more.0, more.1, kept.2, built_more e c.args.self.now.made.items c.push.new.self.items c.args.call c.args.self.now.built c.in_ok-push.ensures.items kept.3)
