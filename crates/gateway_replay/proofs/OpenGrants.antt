-- Which grants are open in passes, as calls are made through them.
use Rattle.std.proofs.Common.{◌≡◌, ℕ, ◌+◌, ◌<◌, ◌&&◌, List, [], ◌∷◌, ◌++◌, Bool, true, false, cond, not, nat_eq, refl, sym, ap, ◌∙◌, subst, arith, Some, length, append-nil}
use Rattle.std.specs.Prelude.{bytes_eq}
use Rattle.std.specs.List.{AllByRecursion, filter}
use Rattle.std.proofs.lemmas.Bool.{eq-eqb, eqb-true, ne_eqb, and_from, cond-true, cond-false}
use Rattle.std.proofs.lemmas.Option.{none-some, same_Some}
use Rattle.cost_num.specs.declared.Cost.{Cost}
use Rattle.account_core.specs.Machine.{Grant, grant, open_grant, is_grant, Call, CallReply, reservation, settlement, granted, short, done, Entry, entry}
use Rattle.account_shared.specs.Views.{PassesView, IsOpen, open_at}
use Rattle.account_shared.specs.Gains.{ClientCall, client_call, entries_for, Gains, grants_past, grants_past_call}
use Rattle.gateway_core.specs.declared.beginning.LocalAnswer.{LocalAnswer}
use Rattle.gateway_core.specs.Begins.{calls_answered}
use Rattle.gateway_replay.specs.Turns.{OpenRequest, open_by, opens_without}
use Rattle.gateway_replay.specs.Stretches.{grants_at, IsBefore, IsBehind, AreRising, JustOpen}

-- ---- what holds of each request of a list

each_front : (P : OpenRequest → Type 0) (xs ys : List OpenRequest) → AllByRecursion P (xs ++ ys) → AllByRecursion P xs
each_front P [] ys h = tt
each_front P (x ∷ xs) ys h = (h.0, each_front P xs ys h.1)

each_back : (P : OpenRequest → Type 0) (xs ys : List OpenRequest) → AllByRecursion P (xs ++ ys) → AllByRecursion P ys
each_back P [] ys h = h
each_back P (x ∷ xs) ys h = each_back P xs ys h.1

each_both : (P : OpenRequest → Type 0) (xs ys : List OpenRequest) → AllByRecursion P xs → AllByRecursion P ys → AllByRecursion P (xs ++ ys)
each_both P [] ys h k = k
each_both P (x ∷ xs) ys h k = (h.0, each_both P xs ys h.1 k)

each_but : (P : OpenRequest → Type 0) (xs ys : List OpenRequest) (r : OpenRequest) → AllByRecursion P (xs ++ r ∷ ys) → AllByRecursion P (xs ++ ys)
each_but P xs ys r h = each_both P xs ys (each_front P xs (r ∷ ys) h) (each_back P xs (r ∷ ys) h).1

before_more : (rs : List OpenRequest) (m n : ℕ) → AllByRecursion (IsBefore m) rs → AllByRecursion (IsBefore (m + n)) rs
before_more [] m n h = tt
before_more (r ∷ rs) m n h = (omega (arith, h.0), before_more rs m n h.1)

rising_but : (xs ys : List OpenRequest) (r : OpenRequest) → AreRising (xs ++ r ∷ ys) → AreRising (xs ++ ys)
rising_but [] ys r h = h.1
rising_but (x ∷ xs) ys r h = (each_but (IsBehind x.grant.ticket.seq) xs ys r h.0, rising_but xs ys r h.1)

rising_last : (rs : List OpenRequest) (r : OpenRequest) → AreRising rs → AllByRecursion (IsBefore r.grant.ticket.seq) rs → AreRising (rs ++ r ∷ [])
rising_last [] r h below = (tt, tt)
rising_last (x ∷ xs) r h below = (each_both (IsBehind x.grant.ticket.seq) xs (r ∷ []) h.0 (below.0, tt), rising_last xs r h.1 below.1)

-- ---- a client's grants among those of open requests

abbrev grant_of : ℕ → OpenRequest → Grant
grant_of name r = grant name r.grant.ticket.seq r.grant.ticket.window r.grant.ticket.bound

abbrev kept_from : ℕ → ℕ → List Grant → List Grant
kept_from name number gs = filter (λ g. not (is_grant name number g)) gs

another : (name number : ℕ) (g : Grant) → nat_eq g.number number ≡ false → is_grant name number g ≡ false
another name number g away = by_caller (nat_eq g.caller name) away
  where
    by_caller : (b : Bool) → nat_eq g.number number ≡ false → (b && nat_eq g.number number) ≡ false
    by_caller true e = e
    by_caller false e = refl

itself : (name : ℕ) (r : OpenRequest) → is_grant name r.grant.ticket.seq (grant_of name r) ≡ true
itself name r = and_from (nat_eq name name) (nat_eq r.grant.ticket.seq r.grant.ticket.seq) (eq-eqb name name refl) (eq-eqb r.grant.ticket.seq r.grant.ticket.seq refl)

-- a request's grant isn't that of one with a lower number, nor of one with a higher one
lower : (name : ℕ) (x r : OpenRequest) → x.grant.ticket.seq < r.grant.ticket.seq → is_grant name r.grant.ticket.seq (grant_of name x) ≡ false
lower name x r h = another name r.grant.ticket.seq (grant_of name x) (ne_eqb x.grant.ticket.seq r.grant.ticket.seq (λ e. omega arith))

higher : (name number : ℕ) (x : OpenRequest) → number < x.grant.ticket.seq → is_grant name number (grant_of name x) ≡ false
higher name number x h = another name number (grant_of name x) (ne_eqb x.grant.ticket.seq number (λ e. omega arith))

-- the first of rising requests comes before the one behind others
before_it : (x r : OpenRequest) (xs ys : List OpenRequest) → AreRising (x ∷ (xs ++ r ∷ ys)) → x.grant.ticket.seq < r.grant.ticket.seq
before_it x r xs ys h = (each_back (IsBehind x.grant.ticket.seq) xs (r ∷ ys) h.0).0

-- its client has the grant of an open request open, under its number
pub found_at : (xs ys : List OpenRequest) (name : ℕ) (r : OpenRequest) → AreRising (xs ++ r ∷ ys)
    → open_grant name r.grant.ticket.seq (grants_at name r.grant.ticket.client (xs ++ r ∷ ys)) ≡ Some (grant_of name r)
found_at [] ys name r h =
    ap (λ b. open_grant name r.grant.ticket.seq (cond b (grant_of name r ∷ grants_at name r.grant.ticket.client ys) (grants_at name r.grant.ticket.client ys))) (eq-eqb r.grant.ticket.client r.grant.ticket.client refl)
    ∙ cond-true (is_grant name r.grant.ticket.seq (grant_of name r)) (Some (grant_of name r)) (open_grant name r.grant.ticket.seq (grants_at name r.grant.ticket.client ys)) (itself name r)
found_at (x ∷ xs) ys name r h =
    passed (nat_eq x.grant.ticket.client r.grant.ticket.client) (found_at xs ys name r h.1)
  where
    rest : List Grant
    rest = grants_at name r.grant.ticket.client (xs ++ r ∷ ys)

    passed : (b : Bool) → open_grant name r.grant.ticket.seq rest ≡ Some (grant_of name r)
        → open_grant name r.grant.ticket.seq (cond b (grant_of name x ∷ rest) rest) ≡ Some (grant_of name r)
    passed true is = cond-false (is_grant name r.grant.ticket.seq (grant_of name x)) (Some (grant_of name x)) (open_grant name r.grant.ticket.seq rest) (lower name x r (before_it x r xs ys h)) ∙ is
    passed false is = is

kept_behind : (rs : List OpenRequest) (name number client : ℕ) → AllByRecursion (IsBehind number) rs → kept_from name number (grants_at name client rs) ≡ grants_at name client rs
kept_behind [] name number client h = refl
kept_behind (r ∷ rs) name number client h = by_client (nat_eq r.grant.ticket.client client) (kept_behind rs name number client h.1)
  where
    rest : List Grant
    rest = grants_at name client rs

    by_client : (b : Bool) → kept_from name number rest ≡ rest → kept_from name number (cond b (grant_of name r ∷ rest) rest) ≡ cond b (grant_of name r ∷ rest) rest
    by_client true is = ap (λ t. cond (not t) (grant_of name r ∷ kept_from name number rest) (kept_from name number rest)) (higher name number r h.0) ∙ ap (λ l. grant_of name r ∷ l) is
    by_client false is = is

-- settled, it is open at its client no more
closed_at : (xs ys : List OpenRequest) (name : ℕ) (r : OpenRequest) → AreRising (xs ++ r ∷ ys)
    → kept_from name r.grant.ticket.seq (grants_at name r.grant.ticket.client (xs ++ r ∷ ys)) ≡ grants_at name r.grant.ticket.client (xs ++ ys)
closed_at [] ys name r h =
    ap (λ b. kept_from name r.grant.ticket.seq (cond b (grant_of name r ∷ rest) rest)) (eq-eqb r.grant.ticket.client r.grant.ticket.client refl)
    ∙ (ap (λ t. cond (not t) (grant_of name r ∷ kept_from name r.grant.ticket.seq rest) (kept_from name r.grant.ticket.seq rest)) (itself name r)
    ∙ kept_behind ys name r.grant.ticket.seq r.grant.ticket.client h.0)
  where
    rest : List Grant
    rest = grants_at name r.grant.ticket.client ys
closed_at (x ∷ xs) ys name r h = by_client (nat_eq x.grant.ticket.client r.grant.ticket.client) (closed_at xs ys name r h.1)
  where
    with_it : List Grant
    with_it = grants_at name r.grant.ticket.client (xs ++ r ∷ ys)

    without_it : List Grant
    without_it = grants_at name r.grant.ticket.client (xs ++ ys)

    by_client : (b : Bool) → kept_from name r.grant.ticket.seq with_it ≡ without_it
        → kept_from name r.grant.ticket.seq (cond b (grant_of name x ∷ with_it) with_it) ≡ cond b (grant_of name x ∷ without_it) without_it
    by_client true is = ap (λ t. cond (not t) (grant_of name x ∷ kept_from name r.grant.ticket.seq with_it) (kept_from name r.grant.ticket.seq with_it)) (lower name x r (before_it x r xs ys h)) ∙ ap (λ l. grant_of name x ∷ l) is
    by_client false is = is

-- and at another client it wasn't
away_at : (xs ys : List OpenRequest) (name client : ℕ) (r : OpenRequest) → nat_eq r.grant.ticket.client client ≡ false → grants_at name client (xs ++ r ∷ ys) ≡ grants_at name client (xs ++ ys)
away_at [] ys name client r away = cond-false (nat_eq r.grant.ticket.client client) (grant_of name r ∷ grants_at name client ys) (grants_at name client ys) away
away_at (x ∷ xs) ys name client r away = ap (λ l. cond (nat_eq x.grant.ticket.client client) (grant_of name x ∷ l) l) (away_at xs ys name client r away)

grants_both : (xs ys : List OpenRequest) (name client : ℕ) → grants_at name client (xs ++ ys) ≡ grants_at name client xs ++ grants_at name client ys
grants_both [] ys name client = refl
grants_both (x ∷ xs) ys name client = by_client (nat_eq x.grant.ticket.client client) (grants_both xs ys name client)
  where
    by_client : (b : Bool) → grants_at name client (xs ++ ys) ≡ grants_at name client xs ++ grants_at name client ys
        → cond b (grant_of name x ∷ grants_at name client (xs ++ ys)) (grants_at name client (xs ++ ys)) ≡ cond b (grant_of name x ∷ grants_at name client xs) (grants_at name client xs) ++ grants_at name client ys
    by_client true is = ap (λ l. grant_of name x ∷ l) is
    by_client false is = is

-- ---- after calls

-- what one call makes of a client's open grants
after_call : (p q : PassesView) (client k : ℕ) (call : Call) (reply : CallReply) → Gains p q (client_call client call reply ∷ [])
    → open_at q k ≡ cond (nat_eq client k) (grants_past_call p.label.name p.made call reply (open_at p k)) (open_at p k)
after_call p q client k call reply g = (g.clients k).grants ∙ by_client (nat_eq client k)
  where
    by_client : (b : Bool) → grants_past (open_at p k) (cond b (entry p.label.name p.made call reply ∷ []) []) ≡ cond b (grants_past_call p.label.name p.made call reply (open_at p k)) (open_at p k)
    by_client true = refl
    by_client false = refl

just_after : (p q : PassesView) (calls : List ClientCall) (left : List OpenRequest) → Gains p q calls → AllByRecursion (IsBefore (p.made + length calls)) left → AreRising left
    → ((k : ℕ) → open_at q k ≡ grants_at p.label.name k left) → JustOpen q left
just_after p q calls left g before rising are = record {
  before = subst (λ n. AllByRecursion (IsBefore n) left) (sym g.made) before;
  rising = rising;
  open_are = λ k. are k ∙ ap (λ label. grants_at label.name k left) (sym g.label);
}

pub just_none : (p q : PassesView) (opens : List OpenRequest) → Gains p q [] → JustOpen p opens → JustOpen q opens
just_none p q opens g j = just_after p q [] opens g (before_more opens p.made 0 j.before) j.rising (λ k. (g.clients k).grants ∙ j.open_are k)

pub just_short : (p q : PassesView) (opens : List OpenRequest) (client window : ℕ) (bound left : Cost) → Gains p q (client_call client (reservation window bound) (short left) ∷ []) → JustOpen p opens → JustOpen q opens
just_short p q opens client window bound left g j =
    just_after p q (client_call client (reservation window bound) (short left) ∷ []) opens g (before_more opens p.made 1 j.before) j.rising
    (λ k. after_call p q client k (reservation window bound) (short left) g ∙ (same (nat_eq client k) (open_at p k) ∙ j.open_are k))
  where
    same : (b : Bool) (gs : List Grant) → cond b gs gs ≡ gs
    same true gs = refl
    same false gs = refl

pub just_granted : (p q : PassesView) (opens : List OpenRequest) (r : OpenRequest) (window : ℕ) → Gains p q (client_call r.grant.ticket.client (reservation window r.grant.ticket.bound) (granted r.grant.ticket.window) ∷ [])
    → r.grant.ticket.seq ≡ p.made → JustOpen p opens → JustOpen q (opens ++ r ∷ [])
just_granted p q opens r window g seq j =
    just_after p q (client_call r.grant.ticket.client (reservation window r.grant.ticket.bound) (granted r.grant.ticket.window) ∷ []) (opens ++ r ∷ []) g
    (each_both (IsBefore (p.made + 1)) opens (r ∷ []) (before_more opens p.made 1 j.before) (omega (arith, seq), tt))
    (rising_last opens r j.rising (subst (λ n. AllByRecursion (IsBefore n) opens) (sym seq) j.before))
    (λ k. after_call p q r.grant.ticket.client k (reservation window r.grant.ticket.bound) (granted r.grant.ticket.window) g
    ∙ (by_client (nat_eq r.grant.ticket.client k) (open_at p k) (grants_at p.label.name k opens) (j.open_are k) ∙ sym (grants_both opens (r ∷ []) p.label.name k)))
  where
    by_client : (b : Bool) (gs hs : List Grant) → gs ≡ hs → cond b (gs ++ grant p.label.name p.made r.grant.ticket.window r.grant.ticket.bound ∷ []) gs ≡ hs ++ cond b (grant_of p.label.name r ∷ []) []
    by_client true gs hs is = λ i. is i ++ grant p.label.name (sym seq i) r.grant.ticket.window r.grant.ticket.bound ∷ []
    by_client false gs hs is = is ∙ sym (append-nil hs)

-- a grant that is opened behind all others and closed leaves these
kept_last : (opens : List OpenRequest) (name number client window : ℕ) (bound : Cost) → AllByRecursion (IsBefore number) opens
    → kept_from name number (grants_at name client opens ++ grant name number window bound ∷ []) ≡ grants_at name client opens
kept_last [] name number client window bound h =
    ap (λ t. cond (not t) (grant name number window bound ∷ []) []) (and_from (nat_eq name name) (nat_eq number number) (eq-eqb name name refl) (eq-eqb number number refl))
kept_last (r ∷ rs) name number client window bound h = by_client (nat_eq r.grant.ticket.client client) (kept_last rs name number client window bound h.1)
  where
    rest : List Grant
    rest = grants_at name client rs

    more : List Grant
    more = rest ++ grant name number window bound ∷ []

    by_client : (b : Bool) → kept_from name number more ≡ rest
        → kept_from name number (cond b (grant_of name r ∷ rest) rest ++ grant name number window bound ∷ []) ≡ cond b (grant_of name r ∷ rest) rest
    by_client true is = ap (λ t. cond (not t) (grant_of name r ∷ kept_from name number more) (kept_from name number more)) (another name number (grant_of name r) (ne_eqb r.grant.ticket.seq number (λ e. omega arith)))
        ∙ ap (λ l. grant_of name r ∷ l) is
    by_client false is = is

-- what was answered leaves no grant open
pub just_both : (p q : PassesView) (opens : List OpenRequest) (client window : ℕ) (a : LocalAnswer) → a.seq ≡ p.made → Gains p q (calls_answered client window a) → JustOpen p opens → JustOpen q opens
just_both p q opens client window a numbered g j =
    just_after p q (calls_answered client window a) opens g (before_more opens p.made 2 j.before) j.rising
    (λ k. (g.clients k).grants ∙ subst (λ n. grants_past (open_at p k) (entries_for k p.label.name p.made (calls_with n)) ≡ grants_at p.label.name k opens) (sym numbered) (by_client k (nat_eq client k)))
  where
    calls_with : ℕ → List ClientCall
    calls_with n = client_call client (reservation window a.finished.bound) (granted a.window) ∷ client_call client (settlement n a.window a.finished.bound a.finished.charged) done ∷ []

    opened : Entry
    opened = entry p.label.name p.made (reservation window a.finished.bound) (granted a.window)

    closed : Entry
    closed = entry p.label.name (p.made + 1) (settlement p.made a.window a.finished.bound a.finished.charged) done

    by_client : (k : ℕ) (b : Bool) → grants_past (open_at p k) (cond b (opened ∷ cond b (closed ∷ []) []) (cond b (closed ∷ []) [])) ≡ grants_at p.label.name k opens
    by_client k true = ap (λ gs. kept_from p.label.name p.made (gs ++ grant p.label.name p.made a.window a.finished.bound ∷ [])) (j.open_are k) ∙ kept_last opens p.label.name p.made k a.window a.finished.bound j.before
    by_client k false = j.open_are k

pub just_settled : (p q : PassesView) (xs ys : List OpenRequest) (r : OpenRequest) (charged : Cost)
    → Gains p q (client_call r.grant.ticket.client (settlement r.grant.ticket.seq r.grant.ticket.window r.grant.ticket.bound charged) done ∷ []) → JustOpen p (xs ++ r ∷ ys) → JustOpen q (xs ++ ys)
just_settled p q xs ys r charged g j =
    just_after p q (client_call r.grant.ticket.client settling_call done ∷ []) (xs ++ ys) g
    (before_more (xs ++ ys) p.made 1 (each_but (IsBefore p.made) xs ys r j.before))
    (rising_but xs ys r j.rising)
    (λ k. after_call p q r.grant.ticket.client k settling_call done g ∙ by_client k (nat_eq r.grant.ticket.client k) refl)
  where
    settling_call : Call
    settling_call = settlement r.grant.ticket.seq r.grant.ticket.window r.grant.ticket.bound charged

    by_client : (k : ℕ) (b : Bool) → nat_eq r.grant.ticket.client k ≡ b → cond b (kept_from p.label.name r.grant.ticket.seq (open_at p k)) (open_at p k) ≡ grants_at p.label.name k (xs ++ ys)
    by_client k true is = ap (kept_from p.label.name r.grant.ticket.seq) (j.open_are k)
        ∙ subst (λ n. kept_from p.label.name r.grant.ticket.seq (grants_at p.label.name n (xs ++ r ∷ ys)) ≡ grants_at p.label.name n (xs ++ ys)) (eqb-true r.grant.ticket.client k is) (closed_at xs ys p.label.name r j.rising)
    by_client k false is = j.open_are k ∙ away_at xs ys p.label.name k r is

-- the grant of an open request is open
pub open_just : (p : PassesView) (xs ys : List OpenRequest) (r : OpenRequest) → JustOpen p (xs ++ r ∷ ys) → IsOpen p r.grant.ticket.client r.grant.ticket.seq r.grant.ticket.window r.grant.ticket.bound
open_just p xs ys r j = ap (open_grant p.label.name r.grant.ticket.seq) (j.open_are r.grant.ticket.client) ∙ found_at xs ys p.label.name r j.rising

-- ---- the open request of an id

-- it stands behind some others, and before the rest
pub record IsPart (id : List ℕ) (opens : List OpenRequest) (r : OpenRequest) : Type 0 where
  pub front : List OpenRequest
  pub rest : List OpenRequest
  pub whole : opens ≡ front ++ r ∷ rest
  pub without : opens_without id opens ≡ front ++ rest

pub parted : (id : List ℕ) (opens : List OpenRequest) (r : OpenRequest) → open_by id opens ≡ Some r → IsPart id opens r
parted id [] r is = absurd (none-some r is)
parted id (x ∷ xs) r is = by_id (bytes_eq x.id id) is refl (λ e. parted id xs r e)
  where
    by_id : (b : Bool) → cond b (Some x) (open_by id xs) ≡ Some r → bytes_eq x.id id ≡ b → (open_by id xs ≡ Some r → IsPart id xs r) → IsPart id (x ∷ xs) r
    by_id true e same further = record {
      front = [];
      rest = xs;
      whole = ap (λ y. y ∷ xs) (same_Some x r e);
      without = cond-true (bytes_eq x.id id) xs (x ∷ opens_without id xs) same;
    }
    by_id false e same further =
        let part = further e in
        record {
          front = x ∷ part.front;
          rest = part.rest;
          whole = ap (λ l. x ∷ l) part.whole;
          without = cond-false (bytes_eq x.id id) xs (x ∷ opens_without id xs) same ∙ ap (λ l. x ∷ l) part.without;
        }
