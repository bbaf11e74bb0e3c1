-- What accounts of a gate have left, what is settled in them and what is carried into their windows is within the cap.
use Rattle.std.proofs.Common.{◌≡◌, ℕ, ◌+◌, ◌<◌, Bool, true, false, nat_eq, cond, List, [], ◌∷◌, ◌++◌, refl, sym, ap, ◌∙◌, subst, arith, map, length, get_or, All}
use Rattle.std.proofs.lemmas.Bool.{cond_both, cond-true, eq-eqb}
use Rattle.std.proofs.lemmas.List.{length-map, get_or_default}
use Rattle.std.proofs.lemmas.List.Elements.{All-map}
use Rattle.std.proofs.Math.ListN.{get_or-map}
use Rattle.cost_num.specs.declared.Cost.{Cost}
use Rattle.cost_num.specs.Within.{Within}
use Rattle.account_core.specs.declared.Account.{Account}
use Rattle.account_core.specs.declared.Limit.{Limit}
use Rattle.account_core.specs.Costs.{nothing, together, remaining}
use Rattle.account_core.specs.Machine.{State, reservation, short, Entry, entry, account_of, used_of, used_in, standing_window, room, surplus, IsReplied}
use Rattle.account_core.specs.History.{state_after, IsLegal}
use Rattle.account_core.specs.Numbers.{FitsCap, KeepsLimit}
use Rattle.account_core.proofs.Histories.{legal-front}
use Rattle.account_core.proofs.Callers.{numbers_within}
use Rattle.account_cells.specs.Views.{View, no_view}
use Rattle.account_shared.specs.Views.{PassesView, AccountsView, Belongs, limit_of, client_at, account_seen}
use Rattle.account_shared.specs.Gains.{SeenBy, GoesOn, Gains, client_call}
use Rattle.client_files.specs.declared.client.Client.{Client}
use Rattle.client_files.specs.ClientFiles.{MayBeNamed, MayBeServed}
use Rattle.gateway_core.specs.declared.gate.Gate.{Gate}
use Rattle.gateway_core.specs.Rules.{client_limit, greatest, IsSettledWithin, IsCarriedWithin}

-- ---- the limits of clients that may be served

named_fits : (client : Client) → MayBeNamed client → FitsCap greatest (client_limit client)
named_fits client named = record {
  one = record { types = named.types; fields = named.fields };
  two = λ carry. let halves = named.carried carry in record { types = omega (arith, halves.0); fields = omega (arith, halves.1) };
}

pub served_fit : (seconds : ℕ) (clients : List Client) → MayBeServed seconds clients → All (FitsCap greatest) (map client_limit clients)
served_fit seconds clients served = All-map (FitsCap greatest) client_limit clients (λ k d low. named_fits _ (served.each k d low))

-- ---- what a window may take in

pub remaining_within : (whole part : Cost) → Within greatest whole → Within greatest (remaining whole part)
remaining_within whole part within = record { types = omega (arith, within.types); fields = omega (arith, within.fields) }

-- an allowance alone, and with at most another one beside it where it carries
alone : (limit : Limit) → FitsCap greatest limit → Within greatest (together limit.allowance nothing)
alone limit fits = record { types = omega (arith, fits.one.types); fields = omega (arith, fits.one.fields) }

doubled : (limit : Limit) (carried : Cost) → FitsCap greatest limit → limit.carry ≡ true → Within limit.allowance carried → Within greatest (together limit.allowance carried)
doubled limit carried fits carry within =
    let two = fits.two carry in
    record { types = omega (arith, two.types, within.types); fields = omega (arith, two.fields, within.fields) }

surplus_within : (limit : Limit) (carried used : Cost) → Within limit.allowance (surplus limit carried used)
surplus_within limit carried used = record { types = omega arith; fields = omega arith }

own_room : (limit : Limit) (a : Account) (carries : Bool) → limit.carry ≡ carries → FitsCap greatest limit → KeepsLimit limit a → Within greatest (together limit.allowance a.carried)
own_room limit a true carry fits keeps = doubled limit a.carried fits carry keeps.carried
own_room limit a false carry fits keeps = subst (λ (c : Cost). Within greatest (together limit.allowance c)) (sym (keeps.plain carry)) (alone limit fits)

pub room_within : (limit : Limit) (a : Account) (at : ℕ) → FitsCap greatest limit → KeepsLimit limit a → Within greatest (room limit a at)
room_within limit a at fits keeps =
    let P : Cost → Type 0 = λ c. Within greatest (together limit.allowance c) in
    let over : Cost = surplus limit a.carried (used_of a) in
    let past : Cost = cond (nat_eq at (a.window + 1)) over limit.allowance in
    cond_both (nat_eq at a.window) a.carried (cond limit.carry past nothing) P
    (λ here. own_room limit a limit.carry refl fits keeps)
    (λ elsewhere. cond_both limit.carry past nothing P
    (λ carry. cond_both (nat_eq at (a.window + 1)) over limit.allowance P
    (λ next. doubled limit over fits carry (surplus_within limit a.carried (used_of a)))
    (λ far. fits.two carry))
    (λ off. alone limit fits))

-- ---- what an account has left

short_within : (limit : Limit) (s : State) (caller window : ℕ) (bound left : Cost) → FitsCap greatest limit → KeepsLimit limit (account_of s)
    → IsReplied limit s caller (reservation window bound) (short left) → Within greatest left
short_within limit s caller window bound left fits keeps replied =
    let at = standing_window s window in
    subst (Within greatest) (sym replied.1) (remaining_within (room limit (account_of s) at) (used_in s at) (room_within limit (account_of s) at fits keeps))

-- after a legal history that ends with a call that is short
short_after : (limit : Limit) (name number window : ℕ) (bound left : Cost) (before now : List Entry) → FitsCap greatest limit → IsLegal limit now
    → SeenBy name before now (entry name number (reservation window bound) (short left) ∷ []) → Within greatest left
short_after limit name number window bound left before now fits legal (others, own, seen) =
    let front = before ++ others in
    let e = entry name number (reservation window bound) (short left) in
    let next = legal front [] e seen in
    short_within limit (state_after limit front) name window bound left fits (numbers_within limit front (legal-front limit now front (e ∷ []) seen legal)) next.0

-- ---- of a gate

pub gate_fits : (gate : Gate) → All (FitsCap greatest) gate.accounts.limits
gate_fits gate = subst (All (FitsCap greatest)) (sym gate.limited) (served_fit gate.settings.window_seconds gate.clients.items.items gate.served)

-- a client that the gate knows has an account
pub known_to : (gate : Gate) (client : ℕ) → client < length gate.clients.items.items → client < length gate.accounts.limits
known_to gate client low = subst (λ (n : ℕ). client < n) (sym (ap (λ (l : List Limit). length l) gate.limited ∙ length-map gate.clients.items.items client_limit)) low

-- ---- of passes to accounts

module _ (q : PassesView) (accounts : AccountsView) (belongs : Belongs q accounts) (fit : All (FitsCap greatest) accounts.limits) where
  as_many : length accounts.limits ≡ length q.clients
  as_many = ap (λ (l : List Limit). length l) (sym belongs.limits) ∙ length-map q.clients limit_of

  fits_at : (client : ℕ) → client < length q.clients → FitsCap greatest (client_at q client).limit
  fits_at client low =
      let there = ap (λ (l : List Limit). get_or l client (limit_of no_view)) (sym belongs.limits) ∙ get_or-map limit_of q.clients client no_view in
      subst (FitsCap greatest) there (fit client (limit_of no_view) (subst (λ (n : ℕ). client < n) (sym as_many) low))

  -- what a short account of a client has left
  pub left_within : (p : PassesView) (client window : ℕ) (bound left : Cost) → client < length accounts.limits
      → Gains p q (client_call client (reservation window bound) (short left) ∷ []) → Within greatest left
  left_within p client window bound left known gains =
      let low = subst (λ (n : ℕ). client < n) as_many known in
      let name = p.label.name in
      let made = p.made in
      let e = entry name made (reservation window bound) (short left) in
      let goes : GoesOn name (client_at p client) (client_at q client) (e ∷ []) =
      subst (GoesOn name (client_at p client) (client_at q client)) (cond-true (nat_eq client client) (e ∷ []) [] (eq-eqb client client refl)) (gains.clients client) in
      short_after (client_at q client).limit name made window bound left (client_at p client).seen (client_at q client).seen (fits_at client low) (belongs.known client low).legal goes.seen

  -- what is settled in the account of a client
  settled_at : (client : ℕ) → client < length q.clients → IsSettledWithin (account_seen (client_at q client))
  settled_at client low =
      let v = client_at q client in
      let a = account_seen v in
      let keeps = numbers_within v.limit v.seen (belongs.known client low).legal in
      let whole = own_room v.limit a v.limit.carry refl (fits_at client low) keeps in
      record { types = omega (arith, keeps.used.types, whole.types); fields = omega (arith, keeps.used.fields, whole.fields) }

  -- what is carried into its window
  carried_at : (client : ℕ) → client < length q.clients → IsCarriedWithin (account_seen (client_at q client))
  carried_at client low =
      let v = client_at q client in
      let keeps = numbers_within v.limit v.seen (belongs.known client low).legal in
      let one = (fits_at client low).one in
      record { types = omega (arith, keeps.carried.types, one.types); fields = omega (arith, keeps.carried.fields, one.fields) }

  -- what holds of the account of each client
  of_each : (P : Account → Type 0) → ((client : ℕ) → client < length q.clients → P (account_seen (client_at q client))) → All P (map account_seen q.clients)
  of_each P each = All-map P account_seen q.clients (λ k d low. subst (λ (v : View). P (account_seen v)) (get_or_default q.clients k no_view d low) (each k low))

  pub settled_within : All IsSettledWithin (map account_seen q.clients)
  settled_within = of_each IsSettledWithin settled_at

  pub carried_within : All IsCarriedWithin (map account_seen q.clients)
  carried_within = of_each IsCarriedWithin carried_at

-- there are as many accounts as clients
pub accounts_paired : (gate : Gate) (p : PassesView) (accounts : List Account) → Belongs p gate.accounts → accounts ≡ map account_seen p.clients → length accounts ≡ length gate.clients.items.items
accounts_paired gate p accounts belongs is =
    ap (λ (l : List Account). length l) is
    ∙ (length-map p.clients account_seen
    ∙ (sym (as_many p gate.accounts belongs (gate_fits gate)) ∙ (ap (λ (l : List Limit). length l) gate.limited ∙ length-map gate.clients.items.items client_limit)))
