-- Accounts that nothing was called on.
use Rattle.std.specs.Prelude.{◌≡◌, map}
use Rattle.account_cells.specs.Views.{first_view}
use Rattle.account_shared.specs.Views.{PassesView, first_label}
use Rattle.gateway_core.specs.Rules.{Rules, client_limit}

-- the first passes to fresh accounts of the clients: through them no call was made, and they were never split
pub record AreFresh (rules : Rules) (p : PassesView) : Type 0 where
  pub made : p.made ≡ 0
  pub label : p.label ≡ first_label
  pub clients : p.clients ≡ map first_view (map client_limit rules.clients)
