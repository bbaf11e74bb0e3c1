use Rattle.std.proofs.Common.{⊎_elim, inl, inr, List, subst}
use Rattle.account_core.specs.Machine.{Entry}
use Rattle.account_journal.specs.Recovery.{FollowsSettled, IsPartlyRecovered}
use Rattle.account_journal.proofs.Recovered.{left_since}
use Rattle.account_journal.proofs.laws.opens_after_a_crash.Goals as goal

pub returns-clause-call : goal.returns-clause-call
returns-clause-call g c j hs e now left opened it = ⊎_elim
    (λ same. inl (subst (λ (l : List Entry). FollowsSettled opened left l) same it.opens.stands))
    (λ more. inr (subst (λ (l : List Entry). FollowsSettled opened left l) more it.opens.stands))
    ((it.keeps it.told it.stores).each left it.crash)

pub returns-clause-opening : goal.returns-clause-opening
returns-clause-opening g c old file now left opened it = ⊎_elim
    (λ was. inl was)
    (λ some. inr (some.0, subst (λ (l : List Entry). FollowsSettled opened left l) some.1 it.opens.stands))
    (left_since g.D.Disk.reads g.D.Disk.image g.D.Disk.moment g.D.Disk.image_since old now file (IsPartlyRecovered file) it.since left it.crash)
