-- The recovered history of a file, and a run behind its first sync.
use Rattle.std.proofs.Common.{◌≡◌, ◌⊎◌, ⊎_elim, inl, inr, ℕ, ◌+◌, List, [], ◌∷◌, ◌++◌, length, take, map, Option, Some, refl, sym, ◌∙◌, ap, subst}
use Rattle.std.proofs.lemmas.List.{append-nil}
use Rattle.account_core.specs.Machine.{Entry}
use Rattle.account_core.specs.Sums.{open_grants}
use Rattle.journal_disk.specs.Images.{IsDurable, TimePasses, CrashesLeave}
use Rattle.journal_disk.proofs.Moments.{started, goes_on}
use Rattle.account_journal.specs.declared.reading.OpenGrant.{OpenGrant}
use Rattle.account_core.specs.declared.Limit.{Limit}
use Rattle.account_journal.specs.declared.journal.Journal.{Journal}
use Rattle.account_journal.specs.declared.reading.Reading.{Reading}
use Rattle.account_journal.specs.Reading.{IsPrepared}
use Rattle.account_journal.proofs.Following.{stands_at}
use Rattle.account_journal.specs.Histories.{history_in, IsStored}
use Rattle.account_journal.specs.Recovery.{IsReady, grant_view, bound_settlement, settlements, settlements_at_bound, free_slot, settlements_due, recovered_history, IsPartlyRecovered, HasSomeSettlements, CrashesLeaveSince}

settlements_are : (slot : ℕ) (opens : List OpenGrant) → settlements slot opens ≡ settlements_at_bound slot (map grant_view opens)
unfolding settlements
settlements_are slot [] = refl
settlements_are slot (o ∷ os) = ap (λ (l : List Entry). bound_settlement slot o ∷ l) (settlements_are (slot + 1) os)

module _ (b : List ℕ) (list : List Entry) (used : ℕ) (opens : List OpenGrant) (is : list ≡ history_in b) (free : used ≡ free_slot b) (leaves : open_grants list ≡ map grant_view opens) where
  due_are : settlements used opens ≡ settlements_due b
  due_are = settlements_are used opens ∙ (λ i. settlements_at_bound (free i) (sym leaves i)) ∙ ap (λ (l : List Entry). settlements_at_bound (free_slot b) (open_grants l)) is

  pub recovered_is : list ++ settlements used opens ≡ recovered_history b
  recovered_is = (λ i. is i ++ due_are i)

  pub on_the_way : (c : List ℕ) → HasSomeSettlements list used opens c → IsPartlyRecovered b c
  on_the_way c some = (some.0, some.1 ∙ (λ i. is i ++ take some.0 (due_are i)))

pub at_first : (b c : List ℕ) → history_in c ≡ history_in b → IsPartlyRecovered b c
at_first b c same = (0, same ∙ sym (append-nil (history_in b)))

-- a sync, and a run behind it
pub since_sync : {D : Type 0} (reads : D → Option (List ℕ)) (image : D → List ℕ → Type 0) (moment : D → ℕ) (image_since : D → ℕ → List ℕ → Type 0) (old synced new : D) (file : List ℕ) (P : List ℕ → Type 0)
    → ((c : List ℕ) → image_since old (moment old) c → image old c) → TimePasses (moment old) (moment synced) (image_since old) (image_since synced) (image synced)
    → ((c : List ℕ) → image synced c → image old c) → reads synced ≡ Some file → IsDurable file (image synced)
    → CrashesLeave moment image_since synced new P → CrashesLeaveSince reads image moment image_since old new file P
since_sync reads image moment image_since old synced new file P here time there told durable run = record {
  synced = synced;
  before = goes_on moment image_since old old synced (image old) (image synced) (started moment image_since old (image old) here) time there;
  told = told;
  durable = durable;
  behind = run;
}

-- what a crash leaves that comes while a journal opens: it comes before the sync, or behind it
pub left_since : {D : Type 0} (reads : D → Option (List ℕ)) (image : D → List ℕ → Type 0) (moment : D → ℕ) (image_since : D → ℕ → List ℕ → Type 0) (old new : D) (file : List ℕ) (P : List ℕ → Type 0)
    → CrashesLeaveSince reads image moment image_since old new file P → (c : List ℕ) → image_since new (moment old) c → image old c ⊎ P c
left_since reads image moment image_since old new file P run c left =
    ⊎_elim (λ was. inl (run.before.each c was)) (λ p. inr p) (run.behind.longer (moment old) c run.before.forward left)

pub prepared_ready : {D : Type 0} (reads : D → Option (List ℕ)) (image : D → List ℕ → Type 0) (before : Option (List ℕ)) (limits : List Limit) (mark : List ℕ) (r : Reading) (j : Journal D) (opens : List OpenGrant)
    → (p : IsPrepared before (reads j.disk) (image j.disk) limits mark r) → limits ≡ j.limits.items → r.accounts.items ≡ j.accounts.items → r.used ≡ j.used → length r.opens.items ≡ j.opened → r.opens.items ≡ opens
    → IsReady reads image j opens p.list
prepared_ready reads image before limits mark r j opens p l a u o are = record {
  stands = stands_at limits j.limits.items r.accounts.items j.accounts.items r.used j.used (length r.opens.items) j.opened p.list (sym l) (sym a) (sym u) (sym o) p.lists.stands;
  kept = subst (λ (n : ℕ). IsStored (reads j.disk) (image j.disk) n p.list) u p.kept;
  leaves = p.lists.leaves ∙ ap (map grant_view) are;
}
