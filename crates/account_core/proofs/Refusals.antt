-- A history without its refusals leads to the same state.
use Rattle.std.proofs.Common.{◌≡◌, ℕ, Bool, true, false, ◌||◌, not, cond, nat_eq, List, [], ◌∷◌, ◌++◌, filter, refl, sym, ap, subst, ◌∙◌}
use Rattle.std.proofs.lemmas.List.{append-nil}
use Rattle.std.proofs.lemmas.List.Elements.{filter-append}
use Rattle.account_core.specs.Costs.{nothing, together}
use Rattle.account_core.specs.declared.Limit.{Limit}
use Rattle.account_core.specs.Machine.{Grant, State, Call, reservation, settlement, CallReply, granted, short, done, Entry, first, IsStep, state_after_call, state_past}
use Rattle.account_core.specs.History.{state_from, entries_by, NumbersBelow, IsNext, IsLegal, is_refusal, without_refusals}
use Rattle.account_core.specs.Sums.{grants_of_call, grants_made, settles_grant, is_settled, open_grants, spent_by, spent_in}
use Rattle.account_core.proofs.CostSums.{nothing-together}
use Rattle.account_core.proofs.Histories.{along, legal-empty, legal-push}

-- what a refusal does: nothing
refused-state : (limit : Limit) (s : State) (caller number : ℕ) (call : Call) (reply : CallReply) → is_refusal reply ≡ true → state_after_call limit s caller number call reply ≡ s
refused-state limit s caller number call (granted at) is = absurd (cc)
refused-state limit s caller number (reservation window bound) (short left) is = refl
refused-state limit s caller number (settlement of window bound measured) (short left) is = refl
refused-state limit s caller number call done is = absurd (cc)

refused-grants : (caller number : ℕ) (call : Call) (reply : CallReply) → is_refusal reply ≡ true → grants_of_call caller number call reply ≡ []
refused-grants caller number call (granted at) is = absurd (cc)
refused-grants caller number (reservation window bound) (short left) is = refl
refused-grants caller number (settlement of window bound measured) (short left) is = refl
refused-grants caller number call done is = absurd (cc)

refused-settles : (caller : ℕ) (call : Call) (reply : CallReply) (g : Grant) → is_refusal reply ≡ true → settles_grant caller call reply g ≡ false
refused-settles caller call (granted at) g is = absurd (cc)
refused-settles caller (reservation window bound) (short left) g is = refl
refused-settles caller (settlement of window bound measured) (short left) g is = refl
refused-settles caller call done g is = absurd (cc)

refused-spends : (window : ℕ) (call : Call) (reply : CallReply) → is_refusal reply ≡ true → spent_by window call reply ≡ nothing
refused-spends window call (granted at) is = absurd (cc)
refused-spends window (reservation asked bound) (short left) is = refl
refused-spends window (settlement of own bound measured) (short left) is = refl
refused-spends window call done is = absurd (cc)

-- ---- entry by entry

pub without-state : (limit : Limit) (s : State) (h : List Entry) → state_from limit s (without_refusals h) ≡ state_from limit s h
without-state limit s [] = refl
without-state limit s (e ∷ es) = by_reply (λ x. without-state limit x es) (is_refusal e.reply) refl
  where
    by_reply : ((x : State) → state_from limit x (without_refusals es) ≡ state_from limit x es) → (t : Bool) → is_refusal e.reply ≡ t
        → state_from limit s (cond (not t) (e ∷ without_refusals es) (without_refusals es)) ≡ state_from limit (state_past limit s e) es
    by_reply rest true is = rest s ∙ ap (λ x. state_from limit x es) (sym (refused-state limit s e.caller e.number e.call e.reply is))
    by_reply rest false is = rest (state_past limit s e)

without-grants : (h : List Entry) → grants_made (without_refusals h) ≡ grants_made h
without-grants [] = refl
without-grants (e ∷ es) = by_reply (without-grants es) (is_refusal e.reply) refl
  where
    here : List Grant
    here = grants_of_call e.caller e.number e.call e.reply

    by_reply : grants_made (without_refusals es) ≡ grants_made es → (t : Bool) → is_refusal e.reply ≡ t → grants_made (cond (not t) (e ∷ without_refusals es) (without_refusals es)) ≡ here ++ grants_made es
    by_reply rest true is = rest ∙ ap (λ gs. gs ++ grants_made es) (sym (refused-grants e.caller e.number e.call e.reply is))
    by_reply rest false is = ap (λ gs. here ++ gs) rest

without-settled : (g : Grant) (h : List Entry) → is_settled (without_refusals h) g ≡ is_settled h g
without-settled g [] = refl
without-settled g (e ∷ es) = by_reply (without-settled g es) (is_refusal e.reply) refl
  where
    here : Bool
    here = settles_grant e.caller e.call e.reply g

    by_reply : is_settled (without_refusals es) g ≡ is_settled es g → (t : Bool) → is_refusal e.reply ≡ t → is_settled (cond (not t) (e ∷ without_refusals es) (without_refusals es)) g ≡ (here || is_settled es g)
    by_reply rest true is = rest ∙ ap (λ t. t || is_settled es g) (sym (refused-settles e.caller e.call e.reply g is))
    by_reply rest false is = ap (λ t. here || t) rest

pub without-open : (h : List Entry) → open_grants (without_refusals h) ≡ open_grants h
without-open h = λ i. filter (λ g. not (without-settled g h i)) (without-grants h i)

pub without-spent : (window : ℕ) (h : List Entry) → spent_in window (without_refusals h) ≡ spent_in window h
without-spent window [] = refl
without-spent window (e ∷ es) = by_reply (without-spent window es) (is_refusal e.reply) refl
  where
    by_reply : spent_in window (without_refusals es) ≡ spent_in window es → (t : Bool) → is_refusal e.reply ≡ t → spent_in window (cond (not t) (e ∷ without_refusals es) (without_refusals es)) ≡ together (spent_by window e.call e.reply) (spent_in window es)
    by_reply rest true is = rest ∙ (sym (nothing-together (spent_in window es)) ∙ ap (λ c. together c (spent_in window es)) (sym (refused-spends window e.call e.reply is)))
    by_reply rest false is = ap (together (spent_by window e.call e.reply)) rest

-- ---- it is legal

without-numbers : (caller top : ℕ) (h : List Entry) → NumbersBelow top (entries_by caller h) → NumbersBelow top (entries_by caller (without_refusals h))
without-numbers caller top [] below = tt
without-numbers caller top (e ∷ es) below = by_tests (without-numbers caller top es) (is_refusal e.reply) (nat_eq e.caller caller) refl below
  where
    rest : List Entry
    rest = entries_by caller (without_refusals es)

    by_tests : (NumbersBelow top (entries_by caller es) → NumbersBelow top rest) → (r own : Bool) → nat_eq e.caller caller ≡ own
        → NumbersBelow top (cond own (e ∷ entries_by caller es) (entries_by caller es)) → NumbersBelow top (entries_by caller (cond (not r) (e ∷ without_refusals es) (without_refusals es)))
    by_tests onward true true is below = onward below.1
    by_tests onward true false is below = onward below
    by_tests onward false true is below = subst (λ t. NumbersBelow top (cond t (e ∷ rest) rest)) (sym is) (below.0, onward below.1)
    by_tests onward false false is below = subst (λ t. NumbersBelow top (cond t (e ∷ rest) rest)) (sym is) (onward below)

without-next : (limit : Limit) (h : List Entry) (e : Entry) → IsNext limit h e → IsNext limit (without_refusals h) e
without-next limit h e next = (
  subst (λ s. IsStep limit s e) (sym (without-state limit first h)) next.0,
  without-numbers e.caller e.number h next.1,
)

pub without-legal : (limit : Limit) (h : List Entry) → IsLegal limit h → IsLegal limit (without_refusals h)
without-legal limit h legal = along (λ front. IsLegal limit (without_refusals front)) limit (legal-empty limit)
    (λ front e next so_far. subst (IsLegal limit) (sym (filter-append (λ (x : Entry). not (is_refusal x.reply)) front (e ∷ []))) (by_reply front e next so_far (is_refusal e.reply)))
    h legal
  where
    by_reply : (front : List Entry) (e : Entry) → IsNext limit front e → IsLegal limit (without_refusals front) → (t : Bool) → IsLegal limit (without_refusals front ++ cond (not t) (e ∷ []) [])
    by_reply front e next so_far true = subst (IsLegal limit) (sym (append-nil (without_refusals front))) so_far
    by_reply front e next so_far false = legal-push limit (without_refusals front) e so_far (without-next limit front e next)
