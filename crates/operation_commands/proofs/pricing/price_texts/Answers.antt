use Rattle.std.proofs.Common.{inl, inr}
use Rattle.operation_commands.proofs.pricing.price_texts.Goals as goal

pub returns-in-Ok : goal.returns-in-Ok
returns-in-Ok c = inr (inl (c.in-Ok.cost, c.in-Ok.ensures.price, record { of_types = c.in-Ok.ensures.types_within; of_fields = c.in-Ok.ensures.fields_within }, c.priced.ensures))
