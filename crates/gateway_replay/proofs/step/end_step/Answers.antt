use Rattle.std.proofs.Common.{refl, sym, ap, ◌∙◌}
use Rattle.std.specs.Prelude.{position}
use Rattle.replay_scripts.specs.Steps.{returned_data}
use Rattle.gateway_replay.specs.Turns.{not_open, finished_with}
use Rattle.gateway_replay.specs.Stretches.{request_of, requests_of}
use Rattle.gateway_replay.proofs.Places.{has_id, nowhere, at_place}
use Rattle.gateway_replay.proofs.TakenSteps.{open_held, answered}
use Rattle.gateway_replay.proofs.step.end_step.Goals as goal

pub returns-in_default-clause-taken : goal.returns-in_default-clause-taken
returns-in_default-clause-taken g c = record {
  how = not_open;
  comes = nowhere c.args.opens.now.items c.args.id.now (sym (c.place_of.ensures ∙ ap (position (has_id c.args.id.now)) c.deref.ensures.value) ∙ c.in_default.is);
  calls = c.gains_none.ensures c.args.passes.now;
  left_are = refl;
  told_is = refl;
}

pub finish-requires-clause-open : goal.finish-requires-clause-open
finish-requires-clause-open g c =
    let at = at_place c.args.opens.now.items c.args.id.now c.in-Some.place c.remove-grant.result (sym (c.place_of.ensures ∙ ap (position (has_id c.args.id.now)) c.deref.ensures.value) ∙ c.in-Some.is) c.remove-grant.ensures.value in
    open_held c.args.passes.now (requests_of c.args.opens.now.items) c.args.id.now (request_of c.remove-grant.result) c.requires.just at.by_id

pub returns-clause-taken : goal.returns-clause-taken
returns-clause-taken g c =
    let at = at_place c.args.opens.now.items c.args.id.now c.in-Some.place c.remove-grant.result (sym (c.place_of.ensures ∙ ap (position (has_id c.args.id.now)) c.deref.ensures.value) ∙ c.in-Some.is) c.remove-grant.ensures.value in
    record {
      how = finished_with (request_of c.remove-grant.result) c.finish.result;
      comes = (at.by_id, answered c.remove-grant.result.grant (returned_data c.args.returned) c.outcome_of-outcome.result c.finish.result c.outcome_of-outcome.ensures c.finish.ensures.finished);
      calls = c.finish.ensures.settled;
      left_are = ap requests_of c.remove-grant.ensures.items ∙ at.others;
      told_is = refl;
    }
