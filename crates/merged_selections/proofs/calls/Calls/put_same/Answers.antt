use Rattle.std.proofs.Common.{arith}
use Rattle.merged_selections.proofs.EqualCalls.{put_equal}
use Rattle.merged_selections.proofs.calls.Calls.put_same.Goals as goal

pub returns-in_err-put-clause-kept : goal.returns-in_err-put-clause-kept
returns-in_err-put-clause-kept c = λ e kept own same. c.in_err-put.ensures.kept e kept own

pub returns-in_err-point-clause-kept : goal.returns-in_err-point-clause-kept
returns-in_err-point-clause-kept c = λ e kept own same. c.in_err-point.ensures.kept e (c.in_ok-put.ensures.kept e kept own)
    (put_equal e c.args.self.now.made.items c.put.new.self.made.items c.args.at c.len-place.result c.args.call (let e = c.len-place.ensures in omega arith) c.in_ok-put.ensures.put same)

pub returns-clause-kept : goal.returns-clause-kept
returns-clause-kept c = λ e kept own same. c.in_ok-point.ensures.kept e (c.in_ok-put.ensures.kept e kept own)
    (put_equal e c.args.self.now.made.items c.put.new.self.made.items c.args.at c.len-place.result c.args.call (let e = c.len-place.ensures in omega arith) c.in_ok-put.ensures.put same)
