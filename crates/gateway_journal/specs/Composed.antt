-- Stretches of calls on a journal add up.
use Rattle.std.proofs.Common.{◌≡◌, ℕ, ◌+◌, ◌-◌, ◌<◌, not, cond, nat_eq, filter, get_or, Bool, true, false, List, [], ◌∷◌, ◌++◌, inl, inr, length, refl, sym, ap, ◌∙◌, subst, arith, append_assoc, append-nil, Option, Some}
use Rattle.std.specs.List.{AllByRecursion}
use Rattle.std.proofs.lemmas.List.Elements.{filter-append}
use Rattle.account_core.specs.declared.Limit.{Limit}
use Rattle.account_core.specs.Machine.{State, Call, reservation, settlement, CallReply, granted, short, done, Entry, entry, first, state_after_call, state_past}
use Rattle.account_core.specs.History.{state_from, state_after, AreSteps, entries_by, is_refusal, without_refusals}
use Rattle.account_core.proofs.Histories.{state_from-append, entries_by-append}
use Rattle.account_core.proofs.Runs.{steps-append}
use Rattle.account_core.proofs.Refusals.{without-state}
use Rattle.account_shared.specs.Gains.{ClientCall}
use Rattle.account_journal.specs.declared.slots.TheConstants.{SLOTS}
use Rattle.account_journal.specs.declared.journal.Journal.{Journal}
use Rattle.account_journal.specs.Histories.{no_limit}
use Rattle.account_journal.specs.Journals.{Follows, Stores, limit_in}
use Rattle.gateway_workers.specs.PassedOn.{numbers_taken, AreSettled, IsFullAt}
use Rattle.gateway_workers.proofs.PassedOn.{taken_then, taken_none}
use Rattle.gateway_journal.specs.Kept.{kept_slots, taken_by, call_kept, entry_of, entries_of_calls, entries_made, kept_of_calls, AreHeld, opened_in, settled_in, GoesOnFrom, HasGained}

-- ---- what holds of each call

pub each_both : (P : ClientCall → Type 0) (xs ys : List ClientCall) → AllByRecursion P xs → AllByRecursion P ys → AllByRecursion P (xs ++ ys)
each_both P [] ys one two = two
each_both P (x ∷ xs) ys one two = (one.0, each_both P xs ys one.1 two)

-- ---- numbers

pub taken_push : (slots : ℕ) (c : ClientCall) (cs : List ClientCall) → numbers_taken (Some slots) (c ∷ cs) ≡ taken_by c.reply + numbers_taken (Some slots) cs
taken_push slots c cs = by_reply c.reply refl
  where
    without : List ClientCall
    without = filter (λ d. not (is_refusal d.reply)) cs

    by_reply : (r : CallReply) → c.reply ≡ r → numbers_taken (Some slots) (c ∷ cs) ≡ taken_by c.reply + numbers_taken (Some slots) cs
    by_reply (granted at) is = subst (λ r. length (cond (not (is_refusal r)) (c ∷ without) without) ≡ taken_by r + length without) (sym is) (omega arith)
    by_reply (short left) is = subst (λ r. length (cond (not (is_refusal r)) (c ∷ without) without) ≡ taken_by r + length without) (sym is) (omega arith)
    by_reply done is = subst (λ r. length (cond (not (is_refusal r)) (c ∷ without) without) ≡ taken_by r + length without) (sym is) (omega arith)

pub counts_then : (xs ys : List ClientCall) → (opened_in (xs ++ ys) ≡ opened_in xs + opened_in ys) × (settled_in (xs ++ ys) ≡ settled_in xs + settled_in ys)
unfolding opened_in settled_in
counts_then [] ys = (omega arith, omega arith)
counts_then (c ∷ cs) ys = let more = counts_then cs ys in (omega (arith, more.0), omega (arith, more.1))

-- what is granted is settled
pub as_many : (made : ℕ) (calls : List ClientCall) → AreSettled made calls → opened_in calls ≡ settled_in calls
unfolding opened_in settled_in
as_many made calls (inl is) = subst (λ l. opened_in l ≡ settled_in l) (sym is) refl
as_many made calls (inr (inl r)) = subst (λ l. opened_in l ≡ settled_in l) (sym r.4) refl
as_many made calls (inr (inr s)) = subst (λ l. opened_in l ≡ settled_in l) (sym s.5) refl

-- ---- entries

entries_then : (slots number : ℕ) (xs ys : List ClientCall) → entries_of_calls number (xs ++ ys) ≡ entries_of_calls number xs ++ entries_of_calls (number + numbers_taken (Some slots) xs) ys
unfolding entries_of_calls
entries_then slots number [] ys = ap (λ n. entries_of_calls n ys) (omega (arith, taken_none (Some slots)))
entries_then slots number (c ∷ cs) ys =
    ap (λ l. entry_of number c ∷ l) (entries_then slots (number + taken_by c.reply) cs ys ∙ ap (λ n. entries_of_calls (number + taken_by c.reply) cs ++ entries_of_calls n ys) (omega (arith, taken_push slots c cs)))

made_then : (slots number : ℕ) (xs ys : List ClientCall) → entries_made number (xs ++ ys) ≡ entries_made number xs ++ entries_made (number + numbers_taken (Some slots) xs) ys
unfolding entries_made
made_then slots number [] ys = ap (λ n. entries_made n ys) (omega (arith, taken_none (Some slots)))
made_then slots number (c ∷ cs) ys =
    ap (λ l. entry c.client number c.call c.reply ∷ l) (made_then slots (number + taken_by c.reply) cs ys ∙ ap (λ n. entries_made (number + taken_by c.reply) cs ++ entries_made n ys) (omega (arith, taken_push slots c cs)))

pub kept_then : (slots number : ℕ) (xs ys : List ClientCall) → kept_of_calls number (xs ++ ys) ≡ kept_of_calls number xs ++ kept_of_calls (number + numbers_taken (Some slots) xs) ys
kept_then slots number xs ys = ap without_refusals (entries_then slots number xs ys) ∙ filter-append (λ e. not (is_refusal e.reply)) (entries_of_calls number xs) (entries_of_calls (number + numbers_taken (Some slots) xs) ys)

pub kept_push : (number : ℕ) (c : ClientCall) (cs : List ClientCall) → kept_of_calls number (c ∷ cs) ≡ without_refusals (entry_of number c ∷ []) ++ kept_of_calls (number + taken_by c.reply) cs
unfolding entries_of_calls
kept_push number c cs = filter-append (λ e. not (is_refusal e.reply)) (entry_of number c ∷ []) (entries_of_calls (number + taken_by c.reply) cs)

-- ---- grants that are held at their turn

held_first : (hs : List Entry) (number : ℕ) (xs ys : List ClientCall) → AreHeld hs number (xs ++ ys) → AreHeld hs number xs
unfolding AreHeld
held_first hs number [] ys held = tt
held_first hs number (c ∷ cs) ys held = (held.0, held_first (hs ++ without_refusals (entry_of number c ∷ [])) (number + taken_by c.reply) cs ys held.1)

held_then : (slots : ℕ) (hs : List Entry) (number : ℕ) (xs ys : List ClientCall) → AreHeld hs number (xs ++ ys) → AreHeld (hs ++ kept_of_calls number xs) (number + numbers_taken (Some slots) xs) ys
unfolding AreHeld entries_of_calls
held_then slots hs number [] ys held = subst (λ n. AreHeld (hs ++ []) n ys) (omega (arith, taken_none (Some slots))) (subst (λ l. AreHeld l number ys) (sym (append-nil hs)) held)
held_then slots hs number (c ∷ cs) ys held =
    subst (λ n. AreHeld (hs ++ kept_of_calls number (c ∷ cs)) n ys) (omega (arith, taken_push slots c cs))
    (subst (λ l. AreHeld l (number + taken_by c.reply + numbers_taken (Some slots) cs) ys)
    (append_assoc hs (without_refusals (entry_of number c ∷ [])) (kept_of_calls (number + taken_by c.reply) cs) ∙ ap (λ l. hs ++ l) (sym (kept_push number c cs)))
    (held_then slots (hs ++ without_refusals (entry_of number c ∷ [])) (number + taken_by c.reply) cs ys held.1))

-- ---- steps

filters_commute : {X : Type 0} (p q : X → Bool) (xs : List X) → filter p (filter q xs) ≡ filter q (filter p xs)
filters_commute p q [] = refl
filters_commute {X} p q (x ∷ xs) = by_both (filters_commute p q xs) (p x) (q x) refl refl
  where
    by_both : filter p (filter q xs) ≡ filter q (filter p xs) → (t u : Bool) → p x ≡ t → q x ≡ u → filter p (cond u (x ∷ filter q xs) (filter q xs)) ≡ filter q (cond t (x ∷ filter p xs) (filter p xs))
    by_both rest true true is is_too =
        ap (λ b. cond b (x ∷ filter p (filter q xs)) (filter p (filter q xs))) is ∙ (ap (λ (l : List X). x ∷ l) rest ∙ sym (ap (λ b. cond b (x ∷ filter q (filter p xs)) (filter q (filter p xs))) is_too))
    by_both rest true false is is_too = rest ∙ sym (ap (λ b. cond b (x ∷ filter q (filter p xs)) (filter q (filter p xs))) is_too)
    by_both rest false true is is_too = ap (λ b. cond b (x ∷ filter p (filter q xs)) (filter p (filter q xs))) is ∙ rest
    by_both rest false false is is_too = rest

-- the state that a client comes to by calls, whose refusals change nothing
state_past_calls : (limit : Limit) (k : ℕ) (hs : List Entry) (number : ℕ) (calls : List ClientCall)
    → state_from limit (state_after limit (entries_by k hs)) (entries_by k (entries_of_calls number calls)) ≡ state_after limit (entries_by k (hs ++ kept_of_calls number calls))
state_past_calls limit k hs number calls =
    let es = entries_of_calls number calls in
    let own = entries_by k hs in
    sym (ap (λ l. state_from limit first l) (entries_by-append k hs (without_refusals es))
    ∙ (state_from-append limit first own (entries_by k (without_refusals es))
    ∙ (ap (λ l. state_from limit (state_after limit own) l) (filters_commute (λ e. nat_eq e.caller k) (λ e. not (is_refusal e.reply)) es)
    ∙ without-state limit (state_after limit own) (entries_by k es))))

-- it is the same whichever window a grant asked for, since it stands in the one that was answered
past_kept : (limit : Limit) (s : State) (caller number : ℕ) (call : Call) (reply : CallReply) → state_after_call limit s caller number call reply ≡ state_after_call limit s caller number (call_kept call reply) reply
past_kept limit s caller number (reservation window bound) (granted at) = refl
past_kept limit s caller number (reservation window bound) (short left) = refl
past_kept limit s caller number (reservation window bound) done = refl
past_kept limit s caller number (settlement of window bound measured) (granted at) = refl
past_kept limit s caller number (settlement of window bound measured) (short left) = refl
past_kept limit s caller number (settlement of window bound measured) done = refl

state_past_made : (limit : Limit) (k : ℕ) (s : State) (number : ℕ) (calls : List ClientCall)
    → state_from limit s (entries_by k (entries_made number calls)) ≡ state_from limit s (entries_by k (entries_of_calls number calls))
unfolding entries_made entries_of_calls
state_past_made limit k s number [] = refl
state_past_made limit k s number (c ∷ cs) = own (λ x. state_past_made limit k x (number + taken_by c.reply) cs) (nat_eq c.client k)
  where
    made : Entry
    made = entry c.client number c.call c.reply

    more_made : List Entry
    more_made = entries_by k (entries_made (number + taken_by c.reply) cs)

    more : List Entry
    more = entries_by k (entries_of_calls (number + taken_by c.reply) cs)

    own : ((x : State) → state_from limit x more_made ≡ state_from limit x more) → (t : Bool)
        → state_from limit s (cond t (made ∷ more_made) more_made) ≡ state_from limit s (cond t (entry_of number c ∷ more) more)
    own rest true = rest (state_past limit s made) ∙ ap (λ x. state_from limit x more) (past_kept limit s c.client number c.call c.reply)
    own rest false = rest s

-- ---- what is gained

module _ {D : Type 0} (reads : D → Option (List ℕ)) (image : D → List ℕ → Type 0) (faults : D → ℕ) where
  pub none_gained : (a : Journal D) → HasGained reads image faults a a []
  unfolding entries_of_calls entries_made opened_in settled_in
  none_gained a = record {
    limits = refl;
    known = tt;
    used = omega (arith, taken_none kept_slots);
    opened = omega arith;
    tells = refl;
    count = omega arith;
    goes = λ hs follows held. record {
      steps = λ k low. tt;
      follows = subst (Follows a) (sym (append-nil hs)) follows;
      stores = λ stored. subst (Stores reads image a) (sym (append-nil hs)) stored;
    };
  }

  pub goes_then : (a b c : Journal D) (xs ys : List ClientCall) (hs : List Entry) → b.limits ≡ a.limits → b.used ≡ a.used + numbers_taken kept_slots xs
      → GoesOnFrom reads image a b hs xs → GoesOnFrom reads image b c (hs ++ kept_of_calls a.used xs) ys → GoesOnFrom reads image a c hs (xs ++ ys)
  goes_then a b c xs ys hs limits used one two =
      let next = a.used + numbers_taken kept_slots xs in
      let whole : (hs ++ kept_of_calls a.used xs) ++ kept_of_calls b.used ys ≡ hs ++ kept_of_calls a.used (xs ++ ys) =
      append_assoc hs (kept_of_calls a.used xs) (kept_of_calls b.used ys) ∙ ap (λ l. hs ++ l) (ap (λ n. kept_of_calls a.used xs ++ kept_of_calls n ys) used ∙ sym (kept_then SLOTS a.used xs ys)) in
      record {
        steps = λ k low.
            let limit = limit_in a k in
            let own = state_after limit (entries_by k hs) in
            let first_ = entries_by k (entries_made a.used xs) in
            let later : AreSteps limit (state_from limit own first_) (entries_by k (entries_made next ys)) =
            subst (λ s. AreSteps limit s (entries_by k (entries_made next ys))) (sym (state_past_made limit k own a.used xs ∙ state_past_calls limit k hs a.used xs))
            (subst (λ n. AreSteps limit (state_after limit (entries_by k (hs ++ kept_of_calls a.used xs))) (entries_by k (entries_made n ys))) used
            (subst (λ (l : _). AreSteps (get_or l.items k no_limit) (state_after (get_or l.items k no_limit) (entries_by k (hs ++ kept_of_calls a.used xs))) (entries_by k (entries_made b.used ys))) limits
            (two.steps k (subst (λ (l : _). k < length l.items) (sym limits) low)))) in
            subst (AreSteps limit own) (sym (ap (λ l. entries_by k l) (made_then SLOTS a.used xs ys) ∙ entries_by-append k (entries_made a.used xs) (entries_made next ys)))
            (steps-append limit own first_ (entries_by k (entries_made next ys)) (one.steps k low) later);
        follows = subst (Follows c) whole two.follows;
        stores = λ stored. subst (Stores reads image c) whole (two.stores (one.stores stored));
      }

  pub gained_then : (a b c : Journal D) (xs ys : List ClientCall) → HasGained reads image faults a b xs → HasGained reads image faults b c ys → HasGained reads image faults a c (xs ++ ys)
  gained_then a b c xs ys one two =
      let counts = counts_then xs ys in
      record {
        limits = two.limits ∙ one.limits;
        known = each_both (λ c. c.client < length a.limits.items) xs ys one.known (subst (λ (l : _). AllByRecursion (λ c. c.client < length l.items) ys) one.limits two.known);
        used = omega (arith, one.used, two.used, taken_then kept_slots xs ys);
        opened = omega (arith, one.opened, two.opened, counts.0, counts.1);
        tells = two.tells ∙ one.tells;
        count = omega (arith, one.count, two.count);
        goes = λ hs follows held.
            let first_ = one.goes hs follows (held_first hs a.used xs ys held) in
            goes_then a b c xs ys hs one.limits one.used first_
            (two.goes (hs ++ kept_of_calls a.used xs) first_.follows
            (subst (λ n. AreHeld (hs ++ kept_of_calls a.used xs) n ys) (sym one.used) (held_then SLOTS hs a.used xs ys held)));
      }

  pub settled_idle : (a b : Journal D) (calls : List ClientCall) → HasGained reads image faults a b calls → AreSettled a.used calls → a.opened ≡ 0 → b.opened ≡ 0
  settled_idle a b calls gained settled none = omega (arith, gained.opened, as_many a.used calls settled, none)

-- ---- room

pub has_filled : (used opened : ℕ) → opened ≡ 0 → SLOTS - used < opened + 2 → IsFullAt kept_slots used
has_filled used opened none full = omega (arith, none, full)

pub would_fill : (used opened : ℕ) → opened ≡ 0 → IsFullAt kept_slots used → SLOTS - used < opened + 2
would_fill used opened none full = omega (arith, none, full)
