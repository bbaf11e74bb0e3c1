-- Passes that have no grant open.
use Prim.Native.Nat.{zero, suc}
use Rattle.std.proofs.Common.{◌≡◌, ℕ, ◌<◌, List, [], ◌∷◌, refl, ap, ◌∙◌, subst, map, get_or, length}
use Rattle.account_core.specs.declared.Limit.{Limit}
use Rattle.account_core.specs.Sums.{open_grants}
use Rattle.account_cells.specs.Views.{View, no_view, first_view}
use Rattle.account_shared.specs.Views.{PassesView, IsIdle}
use Rattle.gateway_workers.specs.Tours.{Tour}
use Rattle.gateway_workers.specs.Joins.{JoinTours}

none_made : (limits : List Limit) (k : ℕ) → (get_or (map first_view limits) k no_view).own ≡ []
none_made [] k = refl
none_made (l ∷ ls) zero = refl
none_made (l ∷ ls) (suc k) = none_made ls k

-- the first passes to fresh accounts
pub fresh_idle : (limits : List Limit) (p : PassesView) → p.clients ≡ map first_view limits → IsIdle p
fresh_idle limits p fresh k low = ap (λ (vs : List View). open_grants (get_or vs k no_view).own) fresh ∙ ap open_grants (none_made limits k)

-- those that the passes of workers were joined to
pub joined_idle : (splits : ℕ) (tours : List Tour) (p q : PassesView) → JoinTours splits tours p q → IsIdle p → IsIdle q
joined_idle splits tours p q joined idle k low =
    let here : k < length p.clients = subst (λ (n : ℕ). k < n) joined.count low in
    ap open_grants (joined.clients k here).own ∙ idle k here
