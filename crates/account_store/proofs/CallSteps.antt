-- The steps of calls come to the rows of the history with them.
use Rattle.std.proofs.Common.{◌≡◌, ⊎_elim, ℕ, List, [], ◌∷◌, ◌++◌, true, false, nat_eq, refl, sym, ap, subst, ◌∙◌, append_assoc}
use Rattle.std.proofs.lemmas.List.{append-nil}
use Rattle.std.proofs.lemmas.Bool.{cases_Bool, cond-true, cond-false, eqb-true, eqb-false}
use Rattle.cost_num.specs.declared.Cost.{Cost}
use Rattle.account_core.specs.declared.Limit.{Limit}
use Rattle.account_core.specs.Machine.{State, Call, reservation, settlement, CallReply, granted, short, done, Entry, entry, grant, account_of, state_past}
use Rattle.account_core.specs.History.{state_after, entries_by, NumbersBelow, IsNext, IsLegal}
use Rattle.account_core.specs.Sums.{is_settled, open_grants}
use Rattle.account_core.proofs.Histories.{state_after-push, legal-empty, legal-push, entries_by-append, entries_by-own, entries_by-other}
use Rattle.account_core.proofs.OpenGrants.{open_grants-idle, open_grants-granted, open_grants-settled, new_number}
use Rattle.account_core.proofs.Callers.{is_settled-own}
use Rattle.account_store.specs.declared.step.Step.{Step}
use Rattle.account_store.specs.Steps.{Rows, row_of, with_row, stepped_by, AreSameRows}
use Rattle.account_store.specs.Histories.{account_after, rows_after, steps_after, steps_on, AreLegal, ComeNext}
use Rattle.account_store.proofs.SameRows.{stepped_by_both, same_then, same_stepped_by}

-- ---- the entries of a client, with one entry more

pub own_entries : (h : List Entry) (e : Entry) (client : ℕ) → e.caller ≡ client → entries_by client (h ++ e ∷ []) ≡ entries_by client h ++ e ∷ []
own_entries h e client is = entries_by-append client h (e ∷ []) ∙ ap (λ (l : List Entry). entries_by client h ++ l) (entries_by-own client e [] is)

other_entries : (h : List Entry) (e : Entry) (client : ℕ) → (e.caller ≡ client → ⊥) → entries_by client (h ++ e ∷ []) ≡ entries_by client h
other_entries h e client other =
    entries_by-append client h (e ∷ []) ∙ (ap (λ (l : List Entry). entries_by client h ++ l) (entries_by-other client e [] other) ∙ append-nil (entries_by client h))

-- by the client of an entry, and by all others
by_client : (P : ℕ → Type 0) (e : Entry) → ((client : ℕ) → e.caller ≡ client → P client) → ((client : ℕ) → (e.caller ≡ client → ⊥) → P client) → (client : ℕ) → P client
by_client P e own other client = ⊎_elim
    (λ (is : nat_eq e.caller client ≡ true). own client (eqb-true e.caller client is))
    (λ (not : nat_eq e.caller client ≡ false). other client (eqb-false e.caller client not))
    (cases_Bool (nat_eq e.caller client))

pub legal_on : (limits : ℕ → Limit) (h : List Entry) (e : Entry) → AreLegal limits h → IsNext (limits e.caller) (entries_by e.caller h) e → AreLegal limits (h ++ e ∷ [])
legal_on limits h e legal next = by_client (λ client. IsLegal (limits client) (entries_by client (h ++ e ∷ []))) e
    (λ client is. subst (IsLegal (limits client)) (sym (own_entries h e client is))
    (legal-push (limits client) (entries_by client h) e (legal client) (subst (λ (c : ℕ). IsNext (limits c) (entries_by c h) e) is next)))
    (λ client other. subst (IsLegal (limits client)) (sym (other_entries h e client other)) (legal client))

-- ---- the rows of accounts behind an entry

other_row : (limits : ℕ → Limit) (h : List Entry) (e : Entry) (client : ℕ) → (e.caller ≡ client → ⊥) → row_of (account_after limits h client) ≡ row_of (account_after limits (h ++ e ∷ []) client)
other_row limits h e client other = ap (λ (l : List Entry). row_of (account_of (state_after (limits client) l))) (sym (other_entries h e client other))

-- the row of its client is put, and the others are as they were
rows_put : (limits : ℕ → Limit) (h : List Entry) (e : Entry) (client : ℕ)
    → with_row e.caller (row_of (account_after limits (h ++ e ∷ []) e.caller)) (λ c. row_of (account_after limits h c)) client ≡ row_of (account_after limits (h ++ e ∷ []) client)
rows_put limits h e client =
    let put = row_of (account_after limits (h ++ e ∷ []) e.caller) in
    let was = row_of (account_after limits h client) in
    ⊎_elim
    (λ (is : nat_eq e.caller client ≡ true). cond-true (nat_eq e.caller client) put was is ∙ ap (λ (c : ℕ). row_of (account_after limits (h ++ e ∷ []) c)) (eqb-true e.caller client is))
    (λ (not : nat_eq e.caller client ≡ false). cond-false (nat_eq e.caller client) put was not ∙ other_row limits h e client (eqb-false e.caller client not))
    (cases_Bool (nat_eq e.caller client))

pub state_on : (limits : ℕ → Limit) (h : List Entry) (e : Entry) (client : ℕ) → e.caller ≡ client
    → state_after (limits client) (entries_by client (h ++ e ∷ [])) ≡ state_past (limits client) (state_after (limits client) (entries_by client h)) e
state_on limits h e client is = ap (state_after (limits client)) (own_entries h e client is) ∙ state_after-push (limits client) (entries_by client h) e

-- ---- one entry

pub free_there : (limits : ℕ → Limit) (h : List Entry) (caller number at : ℕ) (bound : Cost) → IsLegal (limits caller) (entries_by caller h)
    → NumbersBelow number (entries_by caller (entries_by caller h)) → is_settled h (grant caller number at bound) ≡ false
free_there limits h caller number at bound legal below =
    sym (is_settled-own h (grant caller number at bound)) ∙ new_number (limits caller) (entries_by caller h) (grant caller number at bound) legal below

pub one_step : (limits : ℕ → Limit) (h : List Entry) (caller number : ℕ) (call : Call) (reply : CallReply) → IsLegal (limits caller) (entries_by caller h)
    → IsNext (limits caller) (entries_by caller h) (entry caller number call reply)
    → AreSameRows (stepped_by (rows_after limits h) (steps_after limits h (entry caller number call reply))) (rows_after limits (h ++ entry caller number call reply ∷ []))
one_step limits h caller number (reservation asked bound) (granted at) legal next =
    let e = entry caller number (reservation asked bound) (granted at) in
    let window : (account_after limits (h ++ e ∷ []) caller).window ≡ at = ap (λ (s : State). s.window) (state_on limits h e caller refl) in
    record {
      accounts = rows_put limits h e;
      grants =
          ap (λ (w : ℕ). open_grants h ++ grant caller number w bound ∷ []) window
          ∙ sym (open_grants-granted h caller number asked at bound (free_there limits h caller number at bound legal next.1));
    }
one_step limits h caller number (reservation asked bound) (short left) legal next =
    let e = entry caller number (reservation asked bound) (short left) in
    record {
      accounts = by_client (λ client. row_of (account_after limits h client) ≡ row_of (account_after limits (h ++ e ∷ []) client)) e
          (λ client is. ap (λ (s : State). row_of (account_of s)) (sym (state_on limits h e client is)))
          (other_row limits h e);
      grants = sym (open_grants-idle h e refl (λ g. refl));
    }
one_step limits h caller number (reservation asked bound) done legal next = absurd next.0
one_step limits h caller number (settlement of window bound measured) (granted at) legal next = absurd next.0
one_step limits h caller number (settlement of window bound measured) (short left) legal next = absurd next.0
one_step limits h caller number (settlement of window bound measured) done legal next =
    let e = entry caller number (settlement of window bound measured) done in
    record {
      accounts = rows_put limits h e;
      grants = sym (open_grants-settled h caller number of window bound measured);
    }

-- ---- more of them

pub legal_all : (limits : ℕ → Limit) (h es : List Entry) → AreLegal limits h → ComeNext limits h es → AreLegal limits (h ++ es)
legal_all limits h [] legal next = subst (AreLegal limits) (sym (append-nil h)) legal
legal_all limits h (e ∷ es) legal next =
    subst (AreLegal limits) (append_assoc h (e ∷ []) es) (legal_all limits (h ++ e ∷ []) es (legal_on limits h e legal next.0) next.1)

pub all_steps : (limits : ℕ → Limit) (h es : List Entry) → AreLegal limits h → ComeNext limits h es → AreSameRows (stepped_by (rows_after limits h) (steps_on limits h es)) (rows_after limits (h ++ es))
all_steps limits h [] legal next = subst (λ (l : List Entry). AreSameRows (rows_after limits h) (rows_after limits l)) (sym (append-nil h)) (record { accounts = λ client. refl; grants = refl })
all_steps limits h (e ∷ es) legal next =
    let first = steps_after limits h e in
    let rest = steps_on limits (h ++ e ∷ []) es in
    let one = one_step limits h e.caller e.number e.call e.reply (legal e.caller) next.0 in
    let more = all_steps limits (h ++ e ∷ []) es (legal_on limits h e legal next.0) next.1 in
    subst (λ (r : Rows). AreSameRows r (rows_after limits (h ++ e ∷ es))) (sym (stepped_by_both (rows_after limits h) first rest))
    (subst (λ (l : List Entry). AreSameRows (stepped_by (stepped_by (rows_after limits h) first) rest) (rows_after limits l)) (append_assoc h (e ∷ []) es)
    (same_then (stepped_by (stepped_by (rows_after limits h) first) rest) (stepped_by (rows_after limits (h ++ e ∷ [])) rest) (rows_after limits ((h ++ e ∷ []) ++ es))
    (same_stepped_by (stepped_by (rows_after limits h) first) (rows_after limits (h ++ e ∷ [])) rest one) more))

pub none_legal : (limits : ℕ → Limit) → AreLegal limits []
none_legal limits client = legal-empty (limits client)

pub steps_of_both : (limits : ℕ → Limit) (h xs ys : List Entry) → steps_on limits h (xs ++ ys) ≡ steps_on limits h xs ++ steps_on limits (h ++ xs) ys
steps_of_both limits h [] ys = ap (λ (l : List Entry). steps_on limits l ys) (sym (append-nil h))
steps_of_both limits h (x ∷ xs) ys =
    let first = steps_after limits h x in
    ap (λ (l : List Step). first ++ l) (steps_of_both limits (h ++ x ∷ []) xs ys)
    ∙ (ap (λ (l : List Entry). first ++ (steps_on limits (h ++ x ∷ []) xs ++ steps_on limits l ys)) (append_assoc h (x ∷ []) xs)
    ∙ sym (append_assoc first (steps_on limits (h ++ x ∷ []) xs) (steps_on limits (h ++ x ∷ xs) ys)))
