-- The operation is accepted, and its reply came to that.
use Rattle.std.proofs.Common.{subst}
use Rattle.acceptance.specs.Requests.{plan_tree}
use Rattle.operation_commands.specs.Asked.{request_in}
use Rattle.operation_commands.specs.Meter.{MeterOfPlan}
use Rattle.operation_commands.proofs.Measured.{sound_in}
use Rattle.operation_commands.proofs.metering.meter_in.Goals as goal

pub meter_plan-requires-clause-sound : goal.meter_plan-requires-clause-sound
meter_plan-requires-clause-sound c =
    let accepted = c.in-Ok-accepted.ensures.accepted in (
      plan_tree (request_in c.args.asked.now c.in-Ok.inputs) accepted.is_planned.prepared,
      sound_in c.args.asked.now c.in-Ok.inputs c.in-Ok-accepted.accepted.plan c.in-Ok-accepted.accepted.bound accepted c.in-Ok-accepted.ensures.schema,
    )

pub returns-in-Ok-forwarded_in-clause-accepted : goal.returns-in-Ok-forwarded_in-clause-accepted
returns-in-Ok-forwarded_in-clause-accepted c =
    let accepted = c.in-Ok-accepted.ensures.accepted in (
      c.in-Ok.inputs,
      c.in-Ok.ensures.held,
      (
        c.in-Ok-accepted.accepted.plan,
        c.in-Ok-accepted.accepted.bound,
        accepted,
        c.in-Ok-accepted.ensures.schema,
        (
          c.in-Ok-forwarded_in.forwarded.alias,
          c.in-Ok-forwarded_in.ensures.alias,
          subst (λ alias. MeterOfPlan c.in-Ok-accepted.accepted.plan alias (plan_tree (request_in c.args.asked.now c.in-Ok.inputs) accepted.is_planned.prepared) c.args.reply.now c.meter_plan.result) c.as_str.ensures
              (c.meter_plan.ensures (plan_tree (request_in c.args.asked.now c.in-Ok.inputs) accepted.is_planned.prepared)
              (sound_in c.args.asked.now c.in-Ok.inputs c.in-Ok-accepted.accepted.plan c.in-Ok-accepted.accepted.bound accepted c.in-Ok-accepted.ensures.schema)),
        ),
      ),
    )
