-- What is measured is within the cap.
use Rattle.std.proofs.Common.{inl, inr}
use Rattle.operation_commands.proofs.Measured.{types_within, fields_within}
use Rattle.operation_commands.proofs.metering.meter_plan.Goals as goal

pub measured-requires-clause-types_within : goal.measured-requires-clause-types_within
measured-requires-clause-types_within c =
    let sound = c.requires.sound in
    types_within c.args.plan.now c.args.alias.now c.args.reply.now c.in-Ok.metered sound.0 sound.1 c.requires.counted (c.in-Ok.ensures.metered sound.0 sound.1)

pub measured-requires-clause-fields_within : goal.measured-requires-clause-fields_within
measured-requires-clause-fields_within c =
    let sound = c.requires.sound in
    fields_within c.args.plan.now c.args.alias.now c.args.reply.now c.in-Ok.metered sound.0 sound.1 c.requires.counted (c.in-Ok.ensures.metered sound.0 sound.1)

pub returns-in-Ok : goal.returns-in-Ok
returns-in-Ok c = λ tree held. inr (inl (c.in-Ok.metered, c.in-Ok.ensures.metered tree held, c.measured.ensures))
