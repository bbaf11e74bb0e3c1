-- Stretches of calls: one call, and one stretch after another.
use Prim.Native.Nat.{zero, suc}
use Rattle.std.proofs.Common.{◌≡◌, ℕ, ◌+◌, ◌<◌, List, [], ◌∷◌, ◌++◌, Bool, true, false, refl, append_assoc, append-nil, nat_eq, cond, true≢false, sym, ap, ◌∙◌, subst, arith, length}
use Rattle.std.proofs.lemmas.Bool.{eqb-true, eqb-false}
use Rattle.std.proofs.lemmas.List.{length-append}
use Rattle.account_core.specs.declared.Limit.{Limit}
use Rattle.account_core.specs.Machine.{Call, reservation, settlement, CallReply, granted, short, done, Entry, entry, Grant, grant}
use Rattle.account_core.specs.History.{NumbersBelow, entries_by, IsLegal}
use Rattle.account_core.specs.Sums.{open_grants, is_settled}
use Rattle.account_core.proofs.Histories.{legal-front, entries_by-append, entries_by-own}
use Rattle.account_core.proofs.OpenGrants.{open_grants-granted, open_grants-settled, open_grants-idle, new_number}
use Rattle.account_core.proofs.Callers.{is_settled-own}
use Rattle.account_cells.specs.Views.{View}
use Rattle.account_cells.specs.Outcomes.{CallsOnce, IsNew, KnowsCallers}
use Rattle.account_shared.specs.Views.{PassesView, Label, client_at}
use Rattle.account_shared.specs.Gains.{ClientCall, client_call, entries_for, SeenBy, grants_past, grants_past_call, GoesOn, Gains, IsOneCall}

-- ---- lists of entries that add nothing

behind_one : List Entry → List Entry
behind_one [] = []
behind_one (x ∷ xs) = xs

adds_none : (xs ys : List Entry) → xs ++ ys ≡ xs → ys ≡ []
unfolding behind_one
adds_none [] ys is = is
adds_none (x ∷ xs) ys is = adds_none xs ys (ap behind_one is)

has_some : List Entry → Bool
has_some [] = false
has_some (x ∷ xs) = true

some_is_none : (x : Entry) (xs : List Entry) → x ∷ xs ≡ [] → ⊥
unfolding has_some
some_is_none x xs is = true≢false (ap has_some is)

-- where no caller has an entry there is none
none_of_any : (es : List Entry) → ((name : ℕ) → entries_by name es ≡ []) → es ≡ []
none_of_any [] none = refl
none_of_any (x ∷ xs) none = absurd (some_is_none x (entries_by x.caller xs) (sym (entries_by-own x.caller x xs refl) ∙ none x.caller))

first_none : (xs ys : List Entry) → xs ++ ys ≡ [] → xs ≡ []
first_none [] ys is = refl
first_none (x ∷ xs) ys is = absurd (some_is_none x (xs ++ ys) is)

second_none : (xs ys : List Entry) → xs ++ ys ≡ [] → ys ≡ []
second_none [] ys is = is
second_none (x ∷ xs) ys is = absurd (some_is_none x (xs ++ ys) is)

-- ---- one call

-- how it changes the open grants of its caller
grants_after : (limit : Limit) (history own : List Entry) (name number : ℕ) (call : Call) (reply : CallReply) → IsLegal limit history → entries_by name history ≡ own → NumbersBelow number own
    → open_grants (own ++ entry name number call reply ∷ []) ≡ grants_past_call name number call reply (open_grants own)
grants_after limit history own name number (reservation window bound) (granted at) legal is new =
    let g = grant name number at bound in
    let free : is_settled own g ≡ false =
    subst (λ (l : List Entry). is_settled l g ≡ false) is (is_settled-own history g ∙ new_number limit history g legal (subst (NumbersBelow number) (sym is) new)) in
    open_grants-granted own name number window at bound free
grants_after limit history own name number (reservation window bound) (short left) legal is new = open_grants-idle own (entry name number (reservation window bound) (short left)) refl (λ g. refl)
grants_after limit history own name number (reservation window bound) done legal is new = open_grants-idle own (entry name number (reservation window bound) done) refl (λ g. refl)
grants_after limit history own name number (settlement of window bound measured) done legal is new = open_grants-settled own name number of window bound measured
grants_after limit history own name number (settlement of window bound measured) (granted at) legal is new =
    open_grants-idle own (entry name number (settlement of window bound measured) (granted at)) refl (λ g. refl)
grants_after limit history own name number (settlement of window bound measured) (short left) legal is new =
    open_grants-idle own (entry name number (settlement of window bound measured) (short left)) refl (λ g. refl)

-- through first passes that were never split, nobody's entries came before the call
none_between : (v w : View) (e : Entry) (rest : List Entry) → w.seen ≡ (v.seen ++ rest) ++ e ∷ [] → w.splits ≡ 0 → w.name ≡ 0 → KnowsCallers w → entries_by 0 rest ≡ [] → (name : ℕ) → entries_by name rest ≡ []
none_between v w e rest seen never first known own zero = own
none_between v w e rest seen never first known own (suc n) =
    let all : entries_by (suc n) ((v.seen ++ rest) ++ e ∷ []) ≡ [] =
    ap (entries_by (suc n)) (sym seen) ∙ (known first).none_past (suc n) (subst (λ (k : ℕ). k < suc n) (sym never) (omega arith)) in
    let front : entries_by (suc n) (v.seen ++ rest) ≡ [] = first_none (entries_by (suc n) (v.seen ++ rest)) (entries_by (suc n) (e ∷ [])) (sym (entries_by-append (suc n) (v.seen ++ rest) (e ∷ [])) ∙ all) in
    second_none (entries_by (suc n) v.seen) (entries_by (suc n) rest) (sym (entries_by-append (suc n) v.seen rest) ∙ front)

pub goes_on_by : (v w : View) (number : ℕ) (call : Call) (reply : CallReply) → IsNew v number → entries_by v.name v.seen ≡ v.own → CallsOnce v (entry v.name number call reply) w
    → GoesOn v.name v w (entry v.name number call reply ∷ [])
goes_on_by v w number call reply new own c =
    let e = entry v.name number call reply in
    let history = c.1.0 in
    let found = c.1.1 in
    let rest = found.begins.0 in
    let is = c.1.3 in
    let front : IsLegal v.limit history = legal-front v.limit (history ++ e ∷ []) history (e ∷ []) refl c.1.2 in
    let none : entries_by v.name rest ≡ [] = adds_none v.own (entries_by v.name rest)
    (subst (λ l. l ++ entries_by v.name rest ≡ v.own) own (sym (entries_by-append v.name v.seen rest) ∙ (ap (entries_by v.name) (sym found.begins.1) ∙ found.all_own))) in
    let seen : w.seen ≡ (v.seen ++ rest) ++ e ∷ [] = ap (λ (u : View). u.seen) is ∙ ap (λ l. l ++ e ∷ []) found.begins.1 in
    record {
      seen = (rest, none, seen);
      own = ap (λ (u : View). u.own) is;
      grants = ap (λ (u : View). open_grants u.own) is ∙ grants_after v.limit history v.own v.name number call reply front found.all_own new;
      legal = λ before. subst (λ (u : View). IsLegal u.limit u.seen) (sym is) c.1.2;
      limit = ap (λ (u : View). u.limit) is;
      splits = ap (λ (u : View). u.splits) is;
      ended = ap (λ (u : View). u.ended) is;
      alone = λ first never.
          let nobody : rest ≡ [] = none_of_any rest (none_between v w e rest seen (ap (λ (u : View). u.splits) is ∙ never) (ap (λ (u : View). u.name) is ∙ first) c.1.4
          (subst (λ (k : ℕ). entries_by k rest ≡ []) first none)) in
          seen ∙ ap (λ l. l ++ e ∷ []) (ap (λ l. v.seen ++ l) nobody ∙ append-nil v.seen);
    }

-- ---- one client

stays : (name : ℕ) (v : View) → GoesOn name v v []
stays name v = record {
  seen = refl;
  own = sym (append-nil v.own);
  grants = refl;
  legal = λ before. before;
  limit = refl;
  splits = refl;
  ended = refl;
  alone = λ first never. sym (append-nil v.seen);
}

seen_then : (xs : List Entry) (name : ℕ) (a b c : List Entry) (ys : List Entry) → SeenBy name a b xs → SeenBy name b c ys → SeenBy name a c (xs ++ ys)
seen_then [] name a b c ys one two = subst (λ l. SeenBy name l c ys) one two
seen_then (x ∷ xs) name a b c ys one two = (one.0, one.1, seen_then xs name ((a ++ one.0) ++ x ∷ []) b c ys one.2 two)

grants_then : (xs : List Entry) (gs : List Grant) (ys : List Entry) → grants_past gs (xs ++ ys) ≡ grants_past (grants_past gs xs) ys
grants_then [] gs ys = refl
grants_then (x ∷ xs) gs ys = grants_then xs (grants_past_call x.caller x.number x.call x.reply gs) ys

goes_then : (name : ℕ) (u v w : View) (xs ys : List Entry) → GoesOn name u v xs → GoesOn name v w ys → GoesOn name u w (xs ++ ys)
goes_then name u v w xs ys one two = record {
  seen = seen_then xs name u.seen v.seen w.seen ys one.seen two.seen;
  own = two.own ∙ (ap (λ l. l ++ ys) one.own ∙ append_assoc u.own xs ys);
  grants = two.grants ∙ (ap (λ gs. grants_past gs ys) one.grants ∙ sym (grants_then xs (open_grants u.own) ys));
  legal = λ before. two.legal (one.legal before);
  limit = two.limit ∙ one.limit;
  splits = two.splits ∙ one.splits;
  ended = two.ended ∙ one.ended;
  alone = λ first never. two.alone first (one.splits ∙ never) ∙ (ap (λ l. l ++ ys) (one.alone first never) ∙ append_assoc u.seen xs ys);
}

-- ---- all clients

kept_or_not : (b : Bool) (e : Entry) (all front rest : List Entry) → all ≡ front ++ rest → cond b (e ∷ all) all ≡ cond b (e ∷ front) front ++ rest
kept_or_not true e all front rest is = ap (λ l. e ∷ l) is
kept_or_not false e all front rest is = is

entries_then : (xs : List ClientCall) (client name made : ℕ) (ys : List ClientCall) → entries_for client name made (xs ++ ys) ≡ entries_for client name made xs ++ entries_for client name (made + length xs) ys
entries_then [] client name made ys = ap (λ n. entries_for client name n ys) (omega arith)
entries_then (x ∷ xs) client name made ys =
    kept_or_not (nat_eq x.client client) (entry name made x.call x.reply) (entries_for client name (made + 1) (xs ++ ys)) (entries_for client name (made + 1) xs) (entries_for client name (made + length (x ∷ xs)) ys)
    (entries_then xs client name (made + 1) ys ∙ ap (λ n. entries_for client name (made + 1) xs ++ entries_for client name n ys) (omega arith))

pub none_gained : (p : PassesView) → Gains p p []
none_gained p = record { label = refl; cells = refl; limits = refl; made = omega arith; clients = λ k. stays p.label.name (client_at p k) }

pub gained_then : (p q r : PassesView) (xs ys : List ClientCall) → Gains p q xs → Gains q r ys → Gains p r (xs ++ ys)
gained_then p q r xs ys one two =
    let name = p.label.name in record {
      label = two.label ∙ one.label;
      cells = two.cells ∙ one.cells;
      limits = two.limits ∙ one.limits;
      made = two.made ∙ (ap (λ n. n + length ys) one.made ∙ (sym (omega arith) ∙ ap (λ n. p.made + n) (sym (length-append xs ys))));
      clients = λ k.
          let named : GoesOn name (client_at q k) (client_at r k) (entries_for k name q.made ys) =
          subst (λ (n : ℕ). GoesOn n (client_at q k) (client_at r k) (entries_for k n q.made ys)) (ap (λ (l : Label). l.name) one.label) (two.clients k) in
          let counted : GoesOn name (client_at q k) (client_at r k) (entries_for k name (p.made + length xs) ys) =
          subst (λ (n : ℕ). GoesOn name (client_at q k) (client_at r k) (entries_for k name n ys)) one.made named in
          subst (λ l. GoesOn name (client_at p k) (client_at r k) l) (sym (entries_then xs k name p.made ys))
          (goes_then name (client_at p k) (client_at q k) (client_at r k) (entries_for k name p.made xs) (entries_for k name (p.made + length xs) ys) (one.clients k) counted);
    }

pub one_gained : (p q : PassesView) (client : ℕ) (call : Call) (reply : CallReply) → IsOneCall p q client call reply → Gains p q (client_call client call reply ∷ [])
one_gained p q client call reply one = record {
  label = one.label;
  cells = one.cells;
  limits = one.limits;
  made = one.made;
  clients = λ k. at_client k (nat_eq client k) refl;
}
  where
    mine : List Entry
    mine = entry p.label.name p.made call reply ∷ []

    at_client : (k : ℕ) (b : Bool) → nat_eq client k ≡ b → GoesOn p.label.name (client_at p k) (client_at q k) (cond (nat_eq client k) mine [])
    at_client k true is = subst (λ t. GoesOn p.label.name (client_at p k) (client_at q k) (cond t mine [])) (sym is)
        (subst (λ n. GoesOn p.label.name (client_at p n) (client_at q n) mine) (eqb-true client k is) one.goes_on)
    at_client k false is = subst (λ t. GoesOn p.label.name (client_at p k) (client_at q k) (cond t mine [])) (sym is)
        (subst (λ v. GoesOn p.label.name (client_at p k) v []) (sym (one.others k (λ same. eqb-false client k is (sym same)))) (stays p.label.name (client_at p k)))

-- through first passes that were never split
pub alone_gained : (p q : PassesView) (calls : List ClientCall) (client : ℕ) → Gains p q calls → p.label.name ≡ 0 → (client_at p client).splits ≡ 0
    → (client_at q client).seen ≡ (client_at p client).seen ++ entries_for client 0 p.made calls
alone_gained p q calls client gained first never =
    (gained.clients client).alone first never ∙ ap (λ n. (client_at p client).seen ++ entries_for client n p.made calls) first
