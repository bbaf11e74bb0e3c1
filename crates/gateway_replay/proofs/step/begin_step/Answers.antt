use Rattle.std.proofs.Common.{◌∷◌, [], ◌++◌, refl, ap, ◌∙◌, subst}
use Rattle.gateway_core.specs.Gates.{rules_of}
use Rattle.gateway_core.specs.Begins.{IsBegun}
use Rattle.std.proofs.lemmas.List.{map_push}
use Rattle.gateway_core.specs.declared.beginning.Begun.TheVariants.{Granted, Answered, Denied}
use Rattle.gateway_replay.specs.declared.opened.Open.{Open}
use Rattle.gateway_replay.specs.Turns.{begun_as}
use Rattle.gateway_replay.specs.Stretches.{request_of, requests_of}
use Rattle.gateway_replay.proofs.step.begin_step.Goals as goal

pub returns-in-Granted-clause-taken : goal.returns-in-Granted-clause-taken
returns-in-Granted-clause-taken g c =
    let begun = c.in-Granted.ensures.begun in
    let opened : Open = record { id = c.args.id; grant = c.in-Granted.grant } in
    record {
      how = begun_as begun.0 (Granted c.in-Granted.grant);
      comes = (subst (λ body. IsBegun (rules_of c.args.gate.now) c.args.key.now body begun.0 c.args.passes.now.made (Granted c.in-Granted.grant)) c.as_bytes.ensures.value begun.1, c.in-Granted.ensures.never_full);
      calls = begun.2;
      left_are = ap requests_of c.push_reserved.ensures.items
          ∙ (map_push request_of c.reserve.new.self.items opened ∙ ap (λ l. requests_of l ++ request_of opened ∷ []) c.reserve.ensures.items);
      told_is = ap Rattle.gateway_replay.specs.declared.told.Told.TheVariants.Granted c.bound-bound.ensures.bound;
    }

pub returns-in-Denied-clause-taken : goal.returns-in-Denied-clause-taken
returns-in-Denied-clause-taken g c =
    let begun = c.in-Denied.ensures.begun in
    record {
      how = begun_as begun.0 (Denied c.in-Denied.denial);
      comes = (subst (λ body. IsBegun (rules_of c.args.gate.now) c.args.key.now body begun.0 c.args.passes.now.made (Denied c.in-Denied.denial)) c.as_bytes.ensures.value begun.1, c.in-Denied.ensures.never_full);
      calls = begun.2;
      left_are = ap requests_of c.reserve.ensures.items;
      told_is = refl;
    }

pub returns-in-Answered-clause-taken : goal.returns-in-Answered-clause-taken
returns-in-Answered-clause-taken g c =
    let begun = c.in-Answered.ensures.begun in
    record {
      how = begun_as begun.0 (Answered c.in-Answered.answer);
      comes = (subst (λ body. IsBegun (rules_of c.args.gate.now) c.args.key.now body begun.0 c.args.passes.now.made (Answered c.in-Answered.answer)) c.as_bytes.ensures.value begun.1, c.in-Answered.ensures.never_full);
      calls = begun.2;
      left_are = ap requests_of c.reserve.ensures.items;
      told_is = refl;
    }
