-- What a call at one client's lane opens.
use Rattle.std.proofs.Common.{◌≡◌, ℕ, ◌<◌, ◌≤◌, List, sym, subst, ap, ◌∙◌, ⊎_elim, map, length, Some}
use Rattle.std.proofs.lemmas.Bool.{cases_lt}
use Rattle.std.proofs.lemmas.List.{get_or_past, length-map}
use Rattle.std.proofs.lemmas.Option.{none-some}
use Rattle.account_core.specs.declared.Limit.{Limit}
use Rattle.cost_num.specs.declared.Cost.{Cost}
use Rattle.account_core.specs.declared.Reply.{Reply}
use Rattle.account_core.specs.declared.Reply.TheVariants.{Granted, Short}
use Rattle.account_core.specs.Machine.{entry, reservation, grant, open_grant}
use Rattle.account_core.specs.Numbers.{reply_of}
use Rattle.account_core.specs.Sums.{open_grants}
use Rattle.account_cells.specs.Views.{View, no_view}
use Rattle.account_cells.specs.Outcomes.{CallsOnce, Owes, HasTicketFor}
use Rattle.account_cells.proofs.Loops.{owed_after_grant}
use Rattle.account_shared.specs.Views.{PassesView, limit_of, client_at, IsOpen, OpensIfGranted}

abbrev pub OwesIfGranted : View → Reply → Type 0
OwesIfGranted v (Granted ticket) = Owes v ticket.seq ticket.window ticket.bound
OwesIfGranted v (Short left) = Unit {0}

pub owes_if_granted : (v w : View) (client number window : ℕ) (bound : Cost) (reply : Reply) → HasTicketFor client number bound reply → CallsOnce v (entry v.name number (reservation window bound) (reply_of reply)) w → OwesIfGranted w reply
owes_if_granted v w client number window bound (Granted ticket) is c =
    subst (λ b. Owes w ticket.seq ticket.window b) (sym is.2)
    (subst (λ n. Owes w n ticket.window bound) (sym is.1) (owed_after_grant v w number window ticket.window bound c.0 c.1))
owes_if_granted v w client number window bound (Short left) is c = tt

-- a client's view owes what is open there, under the name of the passes
pub opens_if_owes : (p : PassesView) (client : ℕ) (reply : Reply) → (client_at p client).name ≡ p.label.name → OwesIfGranted (client_at p client) reply → OpensIfGranted p client reply
opens_if_owes p client (Granted ticket) named owes =
    subst (λ n. open_grant n ticket.seq (open_grants (client_at p client).own) ≡ Some (grant n ticket.seq ticket.window ticket.bound)) named owes
opens_if_owes p client (Short left) named owes = tt

pub owes_if_open : (p : PassesView) (client seq window : ℕ) (bound : Cost) → (client_at p client).name ≡ p.label.name → IsOpen p client seq window bound → Owes (client_at p client) seq window bound
owes_if_open p client seq window bound named opened =
    subst (λ n. open_grant n seq (open_grants (client_at p client).own) ≡ Some (grant n seq window bound)) (sym named) opened

-- a client with an open grant is one that the passes know, and so one with a limit
known_if_open : (p : PassesView) (client seq window : ℕ) (bound : Cost) → IsOpen p client seq window bound → client < length p.clients
known_if_open p client seq window bound opened = ⊎_elim
    (λ (low : client < length p.clients). low)
    (λ (past : length p.clients ≤ client). absurd (none-some (grant p.label.name seq window bound)
    (sym (ap (λ (v : View). open_grant p.label.name seq (open_grants v.own)) (get_or_past p.clients client no_view past)) ∙ opened)))
    (cases_lt client (length p.clients))

pub limited_if_open : (p : PassesView) (limits : List Limit) (client seq window : ℕ) (bound : Cost) → map limit_of p.clients ≡ limits → IsOpen p client seq window bound → client < length limits
limited_if_open p limits client seq window bound same opened =
    subst (λ (n : ℕ). client < n) (sym (length-map p.clients limit_of) ∙ ap (λ (l : List Limit). length l) same) (known_if_open p client seq window bound opened)
