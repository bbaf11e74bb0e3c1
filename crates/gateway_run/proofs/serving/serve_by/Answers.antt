-- The doors were started with what the words say, and the gate is one of the files.
use Rattle.std.proofs.Common.{inl, refl, subst, None}
use Rattle.gateway_serving.specs.Telling.{doors_told}
use Rattle.gateway_serving.specs.Ends.{ComesTo}
use Rattle.gateway_run.proofs.Services.{same_service}
use Rattle.gateway_run.proofs.serving.serve_by.Goals as goal

pub returns-in_default : goal.returns-in_default
returns-in_default g c = (c.serving_of-serving.result, c.serving_of-serving.ensures, inl (record { asked = refl; idle = c.requires.idle; same = refl }, refl))

pub returns-in_default-made : goal.returns-in_default-made
returns-in_default-made g c = (c.serving_of-serving.result, c.serving_of-serving.ensures, inl (record { asked = refl; idle = c.requires.idle; same = refl }, refl))

pub returns : goal.returns
returns g c =
    let serving = c.serving_of-serving.result in (
      serving,
      c.serving_of-serving.ensures,
      subst (λ s. ComesTo s serving (doors_told g.D.Doors c.args.doors.now)
          (doors_told g.D.Doors c.serve.new.doors) c.serve.result)
          (same_service None c.in-Ok-made.gate c.args.asked.now c.args.inputs c.in-Ok.settings c.in-Ok-made.ensures.rules c.in-Ok-made.ensures.settings c.in-Ok.ensures.host c.in-Ok.ensures.target c.in-Ok.ensures.passed c.in-Ok.ensures.hints)
          c.serve.ensures.came_to,
    )
