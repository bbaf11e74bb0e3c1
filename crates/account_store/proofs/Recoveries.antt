-- The steps that settle what a client left open are those of calls.
use Rattle.std.proofs.Common.{◌≡◌, ⊎_elim, ℕ, ◌+◌, List, [], ◌∷◌, ◌++◌, true, false, nat_eq, refl, sym, ap, subst, ◌∙◌, append_assoc}
use Rattle.std.specs.List.{AllByRecursion}
use Rattle.std.proofs.lemmas.Bool.{cases_Bool, cond-true, cond-false, eqb-true}
use Rattle.account_core.specs.declared.Limit.{Limit}
use Rattle.account_core.specs.Machine.{State, Grant, Entry, account_of}
use Rattle.account_core.specs.History.{state_after, entries_by, grants_by, IsLegal, IsNext}
use Rattle.account_core.specs.Sums.{open_grants, settling_entry}
use Rattle.account_core.proofs.Histories.{entries_by-append, entries_by-own}
use Rattle.account_store.specs.declared.step.AccountRow.{AccountRow}
use Rattle.account_store.specs.declared.step.Step.{Step}
use Rattle.account_store.specs.declared.step.Step.TheVariants.{Accounted, Closed}
use Rattle.account_store.specs.Steps.{row_of, charged_row, recovery_steps}
use Rattle.account_store.specs.Histories.{account_after, rows_after, steps_on, AreLegal, ComeNext, settlings, IsFreeNumber, account_read}
use Rattle.account_store.proofs.CallSteps.{own_entries, state_on}
use Rattle.account_store.proofs.Settlings.{recovers}

abbrev pub AreOf : ℕ → List Grant → Type 0
AreOf client gs = AllByRecursion (λ g. g.caller ≡ client) gs

pub grants_of : (client : ℕ) (gs : List Grant) → AreOf client (grants_by client gs)
grants_of client [] = tt
grants_of client (g ∷ gs) = ⊎_elim
    (λ (is : nat_eq g.caller client ≡ true).
    subst (AreOf client) (sym (cond-true (nat_eq g.caller client) (g ∷ grants_by client gs) (grants_by client gs) is)) (eqb-true g.caller client is, grants_of client gs))
    (λ (not : nat_eq g.caller client ≡ false).
    subst (AreOf client) (sym (cond-false (nat_eq g.caller client) (g ∷ grants_by client gs) (grants_by client gs) not)) (grants_of client gs))
    (cases_Bool (nat_eq g.caller client))

-- the row behind a settlement at the bound
row_on : (limits : ℕ → Limit) (h : List Entry) (number : ℕ) (g : Grant)
    → row_of (account_after limits (h ++ settling_entry number g.bound g ∷ []) g.caller) ≡ charged_row (row_of (account_after limits h g.caller)) g
row_on limits h number g = ap (λ (s : State). row_of (account_of s)) (state_on limits h (settling_entry number g.bound g) g.caller refl)

pub settling_steps : (limits : ℕ → Limit) (h : List Entry) (client number : ℕ) (gs : List Grant) → AreOf client gs
    → steps_on limits h (settlings number gs) ≡ recovery_steps (row_of (account_after limits h client)) gs
settling_steps limits h client number [] own = refl
settling_steps limits h client number (g ∷ gs) own =
    let e = settling_entry number g.bound g in
    let row : row_of (account_after limits (h ++ e ∷ []) g.caller) ≡ charged_row (row_of (account_after limits h client)) g =
    row_on limits h number g ∙ ap (λ (c : ℕ). charged_row (row_of (account_after limits h c)) g) own.0 in
    let there : row_of (account_after limits (h ++ e ∷ []) client) ≡ charged_row (row_of (account_after limits h client)) g =
    ap (λ (c : ℕ). row_of (account_after limits (h ++ e ∷ []) c)) (sym own.0) ∙ row in
    ap (λ (l : List Step). Accounted g.caller (row_of (account_after limits (h ++ e ∷ []) g.caller)) ∷ Closed g.caller g.number ∷ l) (settling_steps limits (h ++ e ∷ []) client (number + 1) gs own.1)
    ∙ (ap (λ (r : AccountRow). Accounted g.caller r ∷ Closed g.caller g.number ∷ recovery_steps (row_of (account_after limits (h ++ e ∷ []) client)) gs) row
    ∙ ap (λ (r : AccountRow). Accounted g.caller (charged_row (row_of (account_after limits h client)) g) ∷ Closed g.caller g.number ∷ recovery_steps r gs) there)

-- ---- calls that come next

-- where a client's whole history is legal, its later entries come next
come_next : (limits : ℕ → Limit) (h : List Entry) (client number : ℕ) (gs : List Grant) → AreOf client gs → IsLegal (limits client) (entries_by client h ++ settlings number gs)
    → ComeNext limits h (settlings number gs)
come_next limits h client number [] own legal = tt
come_next limits h client number (g ∷ gs) own legal =
    let e = settling_entry number g.bound g in
    let es = settlings (number + 1) gs in
    let longer : entries_by client h ++ e ∷ es ≡ entries_by client (h ++ e ∷ []) ++ es =
    sym (append_assoc (entries_by client h) (e ∷ []) es) ∙ ap (λ (l : List Entry). l ++ es) (sym (own_entries h e client own.0)) in (
      subst (λ (c : ℕ). IsNext (limits c) (entries_by c h) e) (sym own.0) (legal (entries_by client h) es e refl),
      come_next limits (h ++ e ∷ []) client (number + 1) gs own.1 (subst (IsLegal (limits client)) longer legal),
    )

settlings_own : (client number : ℕ) (gs : List Grant) → AreOf client gs → entries_by client (settlings number gs) ≡ settlings number gs
settlings_own client number [] own = refl
settlings_own client number (g ∷ gs) own =
    let e = settling_entry number g.bound g in
    entries_by-own client e (settlings (number + 1) gs) own.0 ∙ ap (λ (l : List Entry). e ∷ l) (settlings_own client (number + 1) gs own.1)

pub recovery_next : (limits : ℕ → Limit) (h : List Entry) (client number : ℕ) → AreLegal limits h → IsFreeNumber number h
    → ComeNext limits h (settlings number (grants_by client (open_grants h)))
recovery_next limits h client number legal free =
    come_next limits h client number (grants_by client (open_grants h)) (grants_of client (open_grants h)) (recovers limits h client number legal free).stands.0

pub recovery_account : (limits : ℕ → Limit) (h : List Entry) (client number : ℕ) → AreLegal limits h → IsFreeNumber number h
    → account_after limits (h ++ settlings number (grants_by client (open_grants h))) client ≡ account_read (rows_after limits h) client
recovery_account limits h client number legal free =
    let gs = grants_by client (open_grants h) in
    let all : entries_by client (h ++ settlings number gs) ≡ entries_by client h ++ settlings number gs =
    entries_by-append client h (settlings number gs) ∙ ap (λ (l : List Entry). entries_by client h ++ l) (settlings_own client number gs (grants_of client (open_grants h))) in
    ap (λ (l : List Entry). account_of (state_after (limits client) l)) all ∙ sym (recovers limits h client number legal free).stands.1.0
