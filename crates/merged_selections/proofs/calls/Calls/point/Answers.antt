use Rattle.std.proofs.Common.{◌≡◌, ◌<◌, List, length, arith, refl, sym, ap, subst}
use Rattle.merged_selections.specs.declared.call.Call.{Call}
use Rattle.merged_selections.specs.NodeTests.{AreEqual, values_at}
use Rattle.merged_selections.proofs.EqualCalls.{equal_itself, equal_set}
use Rattle.merged_selections.proofs.calls.Calls.point.Goals as goal

pub loop-self-preserved : goal.loop-self-preserved
loop-self-preserved c = (
  c.loop-self.invariant.0,
  λ e kept.
      let before = c.loop-self.invariant.1 e kept in
      let less : c.len-at.result < length c.loop-self.self.made.items =
      let a = c.len-at.ensures in
      let b = c.loop-self-test.true in
      let d = c.len-in-loop-self.ensures in
      let f = c.if-place-len.false in
      let g = c.len.ensures in
      let h = ap length c.loop-self.invariant.0 in
      omega (arith, a, b, d, f, g, h) in
      let at_end : c.len-at.result ≡ length c.loop-self.self.equal.items = let a = c.len-at.ensures in omega (arith, a) in
      (before.0, equal_itself e c.loop-self.self.made.items c.loop-self.self.equal.items c.push.new.self.items c.len-at.result c.in_ok-push.ensures.items at_end less before.1, before.2, before.3),
)

pub returns-in_err-push-clause-kept : goal.returns-in_err-push-clause-kept
returns-in_err-push-clause-kept c = λ e kept same. let before = c.loop-self.invariant.1 e kept in (before.0, subst (AreEqual e c.loop-self.self.made.items) (sym c.in_err-push.ensures.items) before.1, before.2, before.3)

pub returns-clause-kept : goal.returns-clause-kept
returns-clause-kept c = λ e kept same. let before = c.loop-self.invariant.1 e kept in
    (before.0, equal_set e c.loop-self.self.made.items c.loop-self.self.equal.items _ c.args.place c.args.to refl (subst (λ (cs : List Call). values_at e cs c.args.to ≡ values_at e cs c.args.place) (sym c.loop-self.invariant.0) same) before.1, before.2, before.3)
