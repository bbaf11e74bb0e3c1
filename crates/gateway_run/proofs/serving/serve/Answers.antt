-- The files hold no texts, and doors and disks are as before; or they do, and none failed.
use Rattle.std.proofs.Common.{inl, inr, refl}
use Rattle.gateway_run.proofs.serving.serve.Goals as goal

pub returns-in-Err : goal.returns-in-Err
returns-in-Err g c = inl (c.in-Err.ensures.none, (refl, refl))

pub returns-in-Ok : goal.returns-in-Ok
returns-in-Ok g c = inr (c.in-Ok.texts, c.in-Ok.ensures.held, c.serve_of.ensures, c.in-Ok.ensures.still)
