use Rattle.std.proofs.Common.{◌≡◌, ◌∙◌, ap}
use Rattle.account_journal.specs.Slots.{bodies}
use Rattle.journal_disk.proofs.Moments.{weaker, then_on}
use Rattle.account_journal.proofs.reading.read_and_shut.Goals as goal

pub returns-in-Err-clause-any_moment : goal.returns-in-Err-clause-any_moment
returns-in-Err-clause-any_moment g c b told =
    weaker g.D.Disk.moment g.D.Disk.image_since _ _ _ (λ x. bodies x ≡ bodies b) (λ x left. ap bodies (c.requires.durable b told x left)) c.read_slots.ensures.any_moment

pub returns-in-Err-shut_gate-clause-any_moment : goal.returns-in-Err-shut_gate-clause-any_moment
returns-in-Err-shut_gate-clause-any_moment g c b told =
    then_on g.D.Disk.moment g.D.Disk.image_since _ _ _ (λ x. bodies x ≡ bodies b)
    (weaker g.D.Disk.moment g.D.Disk.image_since _ _ _ (λ x. bodies x ≡ bodies b) (λ x left. ap bodies (c.requires.durable b told x left)) c.read_slots.ensures.any_moment)
    (c.shut_gate.ensures.any_moment b (c.read_slots.ensures.same ∙ told) (λ x now. c.requires.durable b told x (c.read_slots.ensures.images x now)))

pub returns-in-Ok-shut_gate-clause-any_moment : goal.returns-in-Ok-shut_gate-clause-any_moment
returns-in-Ok-shut_gate-clause-any_moment g c b told =
    then_on g.D.Disk.moment g.D.Disk.image_since _ _ _ (λ x. bodies x ≡ bodies b)
    (weaker g.D.Disk.moment g.D.Disk.image_since _ _ _ (λ x. bodies x ≡ bodies b) (λ x left. ap bodies (c.requires.durable b told x left)) c.read_slots.ensures.any_moment)
    (c.shut_gate.ensures.any_moment b (c.read_slots.ensures.same ∙ told) (λ x now. c.requires.durable b told x (c.read_slots.ensures.images x now)))

pub returns-in-Ok-shut_gate-clause-rest : goal.returns-in-Ok-shut_gate-clause-rest
returns-in-Ok-shut_gate-clause-rest g c b told =
    c.in-Ok-shut_gate.ensures.rest b (c.read_slots.ensures.same ∙ told) (λ x now. c.requires.durable b told x (c.read_slots.ensures.images x now))
