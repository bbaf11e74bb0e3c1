use Rattle.std.proofs.Common.{◌+◌, ◌++◌, [], ◌∷◌, List, ℕ, subst}
use Rattle.account_journal.specs.Slots.{bodies, HoldsSlots}
use Rattle.account_journal.proofs.journal.Journal.write.Goals as goal

pub returns-clause-rest : goal.returns-clause-rest
returns-clause-rest g c b told =
    subst (λ (p : List ℕ). HoldsSlots (g.D.Disk.reads c.append.new.disk) (g.D.Disk.image c.append.new.disk) (c.args.self.now.used + 1) (bodies b ++ p ∷ [])) c.record_bytes.ensures.bytes (c.in_ok-append.ensures.rest b told)
