use Rattle.std.proofs.Common.{sym, ap, subst}
use Rattle.std.specs.Vec.Iter.{into_iter_items}
use Rattle.gateway_replay.specs.Stretches.{request_of, requests_of, JustOpen}
use Rattle.gateway_replay.proofs.LeftOpen.{abandons_none, abandons_more, few_made}
use Rattle.gateway_replay.proofs.abandoning.abandon_all.Goals as goal

pub loop-open-init : goal.loop-open-init
loop-open-init g c = record {
  belong = c.requires.belong;
  few = c.requires.few;
  so_far = abandons_none c.args.passes.now (requests_of c.args.opens.items) (requests_of (into_iter_items c.into_iter-rest.result)) c.args.report.now c.args.told (c.gains_none.ensures c.args.passes.now)
      (ap requests_of (sym c.into_iter-rest.ensures.rest)) (subst (λ l. JustOpen c.args.passes.now (requests_of l)) (sym c.into_iter-rest.ensures.rest) c.requires.just) c.requires.room;
}

pub abandon-told-requires-clause-made : goal.abandon-told-requires-clause-made
abandon-told-requires-clause-made g c =
    few_made c.args.passes.now c.loop-open.passes c.args.opens.items (requests_of (into_iter_items c.loop-open.rest)) c.args.report.now c.loop-open.report c.args.told c.loop-open.told
    c.loop-open.invariant.so_far c.requires.few c.requires.made

pub loop-open-preserved : goal.loop-open-preserved
loop-open-preserved g c = record {
  belong = c.abandon-told.ensures.belong;
  few = c.requires.few;
  so_far = abandons_more c.gains_then.ensures c.args.passes.now c.loop-open.passes c.abandon-told.new.passes (requests_of c.args.opens.items) (requests_of (into_iter_items c.loop-open.rest)) (requests_of (into_iter_items c.next.new.self))
      (request_of c.in-Some.open) c.args.report.now c.loop-open.report c.abandon-told.new.report c.args.told c.loop-open.told c.abandon-told.result
      (ap requests_of c.in-Some.ensures.items) c.loop-open.invariant.so_far c.abandon-told.ensures.call c.abandon-told.ensures.told c.abandon-told.ensures.line c.abandon-told.ensures.room;
}
