use Rattle.std.proofs.Common.{inl, inr, subst}
use Rattle.operation_commands.specs.Meter.{MeterOf}
use Rattle.operation_commands.proofs.metering.meter.Goals as goal

pub returns-in-Ok : goal.returns-in-Ok
returns-in-Ok g c = inr (c.in-Ok.read.texts, c.in-Ok.read.reply.items, c.in-Ok.ensures.texts, c.in-Ok.ensures.reply, subst (λ bytes. MeterOf c.args.asked.now c.in-Ok.read.texts bytes c.meter_texts.result) c.deref.ensures.value c.meter_texts.ensures, c.in-Ok.ensures.still)

pub returns-in-Err : goal.returns-in-Err
returns-in-Err g c = inl c.in-Err.ensures.none
