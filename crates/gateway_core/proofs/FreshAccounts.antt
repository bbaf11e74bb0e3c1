-- The clients' accounts through the first passes to fresh accounts.
use Rattle.std.proofs.Common.{◌≡◌, ℕ, ◌<◌, sym, ap, ◌∙◌, subst, length, map, get_or}
use Rattle.std.proofs.lemmas.List.{length-map, get_or-map}
use Rattle.account_cells.specs.Views.{View, no_view, no_limit, first_view}
use Rattle.account_core.specs.Sums.{open_grants}
use Rattle.account_shared.specs.Views.{PassesView, client_at, IsIdle}
use Rattle.client_files.specs.declared.client.Client.{Client}
use Rattle.gateway_core.specs.Rules.{Rules, client_limit}
use Rattle.gateway_core.specs.Fresh.{AreFresh}

pub fresh_count : (rules : Rules) (p : PassesView) → AreFresh rules p → length p.clients ≡ length rules.clients
fresh_count rules p fresh = ap length fresh.clients ∙ (length-map (map client_limit rules.clients) first_view ∙ length-map rules.clients client_limit)

-- the first view of the client at a place
pub fresh_at : (rules : Rules) (p : PassesView) (client : ℕ) (d : Client) → AreFresh rules p → client < length rules.clients → client_at p client ≡ first_view (client_limit (get_or rules.clients client d))
fresh_at rules p client d fresh low = ap (λ views. get_or views client no_view) fresh.clients
    ∙ (get_or-map first_view (map client_limit rules.clients) client (client_limit d) no_view (subst (λ n. client < n) (sym (length-map rules.clients client_limit)) low)
    ∙ ap first_view (get_or-map client_limit rules.clients client d (client_limit d) low))

pub fresh_idle : (rules : Rules) (p : PassesView) → AreFresh rules p → IsIdle p
fresh_idle rules p fresh client low = ap (λ (v : View). open_grants v.own) (ap (λ views. get_or views client no_view) fresh.clients
    ∙ get_or-map first_view (map client_limit rules.clients) client no_limit no_view (subst (λ n. client < n) (ap length fresh.clients ∙ length-map (map client_limit rules.clients) first_view) low))
