use Rattle.std.proofs.Common.{◌≡◌, ◌≢◌, ◌<◌, ◌≤◌, ⊎_elim, ℕ, sym, subst, arith}
use Rattle.std.proofs.lemmas.Bool.{cases_eq, cases_lt}
use Rattle.account_journal.specs.Reading.{IsValidSlot}
use Rattle.account_journal.proofs.laws.refusals_exclude_each_other.Goals as goal

pub returns-clause-intact_damaged : goal.returns-clause-intact_damaged
returns-clause-intact_damaged c limits mark slots n whole damaged = damaged.bad (whole.good n damaged.present)

pub returns-clause-intact_other : goal.returns-clause-intact_other
returns-clause-intact_other c limits mark slots whole others = others.other (whole.marked others.present)

pub returns-clause-damaged_other : goal.returns-clause-damaged_other
returns-clause-damaged_other c limits mark slots n damaged others = ⊎_elim
    (λ (none : n ≡ 0). damaged.bad (subst (λ (k : ℕ). IsValidSlot limits slots k) (sym none) others.header))
    (λ (some : n ≢ 0). others.other (damaged.marked (omega (arith, some)) others.present))
    (cases_eq n 0)

pub returns-clause-damaged_once : goal.returns-clause-damaged_once
returns-clause-damaged_once c limits mark slots n m one two = ⊎_elim
    (λ (first : n < m). absurd (one.bad (two.before n first)))
    (λ (later : m ≤ n). ⊎_elim
    (λ (second : m < n). absurd (two.bad (one.before m second)))
    (λ (same : n ≤ m). omega (arith, later, same))
    (cases_lt m n))
    (cases_lt n m)
