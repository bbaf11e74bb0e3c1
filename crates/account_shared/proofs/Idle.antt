-- Passes that have no grant open after a stretch of calls.
use Prim.Native.Nat.{zero, suc}
use Rattle.std.proofs.Common.{◌≡◌, ℕ, ◌≤◌, ◌<◌, List, [], ◌∷◌, Bool, true, false, not, cond, nat_eq, refl, sym, ap, ◌∙◌, subst, ⊎_elim, map, get_or, length}
use Rattle.std.proofs.lemmas.Bool.{and_from, cases_lt, eq-eqb}
use Rattle.std.proofs.lemmas.List.{get_or_past, length-map}
use Rattle.cost_num.specs.declared.Cost.{Cost}
use Rattle.account_core.specs.declared.Limit.{Limit}
use Rattle.account_core.specs.declared.Ticket.{Ticket}
use Rattle.account_core.specs.Machine.{reservation, settlement, granted, short, done, entry, Grant, grant, is_grant}
use Rattle.account_core.specs.Numbers.{settlement_of}
use Rattle.account_core.specs.Sums.{open_grants}
use Rattle.account_cells.specs.Views.{View, no_view, after_split, split_off}
use Rattle.account_shared.specs.Views.{PassesView, Label, label_after_split, limit_of, client_at, open_at, IsIdle, JoinsTo}
use Rattle.account_shared.specs.Gains.{ClientCall, client_call, entries_for, grants_past, Gains, LeavesNoneOpen}

as_many : (p q : PassesView) → map limit_of q.clients ≡ map limit_of p.clients → length q.clients ≡ length p.clients
as_many p q limits = sym (length-map q.clients limit_of) ∙ (ap (λ (l : List Limit). length l) limits ∙ length-map p.clients limit_of)

-- a stretch of calls that leaves none open by itself
pub idle_past : (p q : PassesView) (calls : List ClientCall) → Gains p q calls → IsIdle p → LeavesNoneOpen p calls → IsIdle q
idle_past p q calls gained idle none k low =
    let here : k < length p.clients = subst (λ (n : ℕ). k < n) (as_many p q gained.limits) low in
    (gained.clients k).grants ∙ (ap (λ gs. grants_past gs (entries_for k p.label.name p.made calls)) (idle k here) ∙ none k)

pub idle_past_refusal : (p q : PassesView) (client window : ℕ) (bound left : Cost) → Gains p q (client_call client (reservation window bound) (short left) ∷ []) → IsIdle p → IsIdle q
idle_past_refusal p q client window bound left gained idle = idle_past p q (client_call client (reservation window bound) (short left) ∷ []) gained idle (λ k. none (nat_eq client k))
  where
    none : (b : Bool) → grants_past [] (cond b (entry p.label.name p.made (reservation window bound) (short left) ∷ []) []) ≡ []
    none true = refl
    none false = refl

-- ---- a grant that is settled by the next call

none_open : (p : PassesView) → IsIdle p → (k : ℕ) → open_at p k ≡ []
none_open p idle k = ⊎_elim
    (λ (low : k < length p.clients). idle k low)
    (λ (past : length p.clients ≤ k). ap (λ (v : View). open_grants v.own) (get_or_past p.clients k no_view past))
    (cases_lt k (length p.clients))

-- in between the open grants stay, and the name
idle_past_both : (p q s r : PassesView) (client window at : ℕ) (bound measured : Cost) → Gains p q (client_call client (reservation window bound) (granted at) ∷ []) → s.label.name ≡ q.label.name → ((k : ℕ) → open_at s k ≡ open_at q k)
    → Gains s r (client_call client (settlement p.made at bound measured) done ∷ []) → IsIdle p → IsIdle r
idle_past_both p q s r client window at bound measured one named stay two idle k low =
    let opened : open_at s k ≡ past = stay k ∙ ((one.clients k).grants ∙ ap (λ gs. grants_past gs (entries_for k name p.made reserving)) (none_open p idle k)) in
    let same : s.label.name ≡ name = named ∙ ap (λ (l : Label). l.name) one.label in
    (two.clients k).grants
    ∙ (ap (λ gs. grants_past gs (entries_for k s.label.name s.made settling)) opened ∙ (ap (λ n. grants_past past (entries_for k n s.made settling)) same ∙ none (nat_eq client k)))
  where
    name : ℕ
    name = p.label.name

    reserving : List ClientCall
    reserving = client_call client (reservation window bound) (granted at) ∷ []

    settling : List ClientCall
    settling = client_call client (settlement p.made at bound measured) done ∷ []

    past : List Grant
    past = grants_past [] (entries_for k name p.made reserving)

    g : Grant
    g = grant name p.made at bound

    own : is_grant name p.made g ≡ true
    own = and_from (nat_eq name name) (nat_eq p.made p.made) (eq-eqb name name refl) (eq-eqb p.made p.made refl)

    none : (b : Bool) → grants_past (grants_past [] (cond b (entry name p.made (reservation window bound) (granted at) ∷ []) [])) (cond b (entry name s.made (settlement p.made at bound measured) done ∷ []) []) ≡ []
    none true = ap (λ t. cond (not t) (g ∷ []) []) own
    none false = refl

idle_past_stay : (p q s r : PassesView) (client window : ℕ) (bound measured : Cost) (t : Ticket) → (t.client ≡ client) × (t.seq ≡ p.made) × (t.bound ≡ bound) → Gains p q (client_call client (reservation window bound) (granted t.window) ∷ [])
    → s.label.name ≡ q.label.name → ((k : ℕ) → open_at s k ≡ open_at q k) → Gains s r (client_call t.client (settlement_of t measured) done ∷ []) → IsIdle p → IsIdle r
idle_past_stay p q s r client window bound measured t is one named stay two idle =
    let made : Gains s r (client_call t.client (settlement p.made t.window t.bound measured) done ∷ []) = subst (λ n. Gains s r (client_call t.client (settlement n t.window t.bound measured) done ∷ [])) is.1 two in
    let bounded : Gains s r (client_call t.client (settlement p.made t.window bound measured) done ∷ []) = subst (λ b. Gains s r (client_call t.client (settlement p.made t.window b measured) done ∷ [])) is.2 made in
    let settled : Gains s r (client_call client (settlement p.made t.window bound measured) done ∷ []) = subst (λ n. Gains s r (client_call n (settlement p.made t.window bound measured) done ∷ [])) is.0 bounded in
    idle_past_both p q s r client window t.window bound measured one named stay settled idle

pub idle_past_ticket : (p q r : PassesView) (client window : ℕ) (bound measured : Cost) (t : Ticket) → (t.client ≡ client) × (t.seq ≡ p.made) × (t.bound ≡ bound)
    → Gains p q (client_call client (reservation window bound) (granted t.window) ∷ []) → Gains q r (client_call t.client (settlement_of t measured) done ∷ []) → IsIdle p → IsIdle r
idle_past_ticket p q r client window bound measured t is one two idle = idle_past_stay p q q r client window bound measured t is one refl (λ k. refl) two idle

-- ---- splits and joins

-- a split leaves each client's own entries
own_past_split : (vs : List View) (k : ℕ) → (get_or (map after_split vs) k no_view).own ≡ (get_or vs k no_view).own
own_past_split [] k = refl
own_past_split (v ∷ vs) zero = refl
own_past_split (v ∷ vs) (suc k) = own_past_split vs k

open_past_split : (p q : PassesView) → q.clients ≡ map after_split p.clients → (k : ℕ) → open_at q k ≡ open_at p k
open_past_split p q clients k = ap (λ (vs : List View). open_grants (get_or vs k no_view).own) clients ∙ ap open_grants (own_past_split p.clients k)

-- a grant that is settled after a split
pub idle_past_split : (p q s r : PassesView) (client window : ℕ) (bound measured : Cost) (t : Ticket) → (t.client ≡ client) × (t.seq ≡ p.made) × (t.bound ≡ bound) → Gains p q (client_call client (reservation window bound) (granted t.window) ∷ [])
    → s.clients ≡ map after_split q.clients → s.label ≡ label_after_split q.label → Gains s r (client_call t.client (settlement_of t measured) done ∷ []) → IsIdle p → IsIdle r
idle_past_split p q s r client window bound measured t is one clients label two idle =
    idle_past_stay p q s r client window bound measured t is one (ap (λ (l : Label). l.name) label) (open_past_split q s clients) two idle

own_split_off : (vs : List View) (k : ℕ) → (get_or (map split_off vs) k no_view).own ≡ []
own_split_off [] k = refl
own_split_off (v ∷ vs) zero = refl
own_split_off (v ∷ vs) (suc k) = own_split_off vs k

pub idle_split_off : (p q : PassesView) → q.clients ≡ map split_off p.clients → IsIdle q
idle_split_off p q clients k low = ap (λ (vs : List View). open_grants (get_or vs k no_view).own) clients ∙ ap open_grants (own_split_off p.clients k)

pub idle_past_join : (p q other : PassesView) → map limit_of q.clients ≡ map limit_of p.clients → ((k : ℕ) → k < length p.clients → JoinsTo (client_at other k) (client_at p k) (client_at q k)) → IsIdle p → IsIdle q
idle_past_join p q other limits joined idle k low =
    let here : k < length p.clients = subst (λ (n : ℕ). k < n) (as_many p q limits) low in
    ap (λ (v : View). open_grants v.own) (joined k here).same ∙ idle k here
