use Rattle.std.proofs.Common.{◌≡◌, ◌++◌, drop}
use Rattle.gateway_run.proofs.serving.copies_of.Given as goal

abbrev pub invariant-texts : goal.invariant-texts
invariant-texts l = l.copies.items ++ drop l.text-index l.texts ≡ l.texts
