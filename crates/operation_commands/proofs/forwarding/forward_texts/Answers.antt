use Rattle.std.proofs.Common.{inl, inr, ap, ℕ, Vec, string_bytes}
use Rattle.std.specs.declared.alloc.Global.{Global}
use Rattle.operation_commands.proofs.forwarding.forward_texts.Goals as goal

pub returns-in-Ok : goal.returns-in-Ok
returns-in-Ok c = inr (inl (string_bytes c.in-Ok.text, c.in-Ok.ensures.sent, ap (λ (v : Vec ℕ Global). v.items) c.into_bytes.ensures.value))
