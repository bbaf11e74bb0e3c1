-- Fresh accounts and the first passes to them.
use Rattle.std.proofs.Common.{◌≡◌, ◌<◌, ℕ, List, ◌∷◌, [], sym, ap, ◌∙◌, subst, refl, map, length, get_or, All}
use Rattle.std.proofs.lemmas.List.{length-map, get_or-map as map_at}
use Rattle.cost_num.specs.declared.TheConstants.{CAP}
use Rattle.account_core.specs.declared.Limit.{Limit}
use Rattle.account_core.specs.Costs.{cost}
use Rattle.account_core.specs.Numbers.{FitsCap}
use Rattle.account_core.proofs.Histories.{legal-empty}
use Rattle.account_cells.specs.Views.{first_view}
use Rattle.account_cells.proofs.Callers.{callers_at_first}
use Rattle.account_shared.specs.declared.Lane.{Lane}
use Rattle.account_shared.specs.declared.Slot.{Slot}
use Rattle.account_shared.specs.Views.{first_label, limit_of}
use Rattle.account_shared.specs.Inside.{lane_view, slot_limit, label_in, IsReady, AreLanes, IsSlot}
use Rattle.account_shared.proofs.Lanes.{mapped_ready}

first_ready : (limit : Limit) → IsReady 0 first_label (first_view limit)
first_ready limit = record {
  live = refl;
  compared = refl;
  known = record { same_label = refl; callers = callers_at_first limit; legal = legal-empty limit; own = refl; numbers = tt };
}

pub first_lanes : (limits : List Limit) (ls : List Lane) → map lane_view ls ≡ map first_view limits → 0 < length limits → AreLanes 0 ls × (label_in ls ≡ first_label)
first_lanes limits ls shows some = mapped_ready 0 first_label ls first_view limits shows some (λ k d low. first_ready (get_or limits k d))

pub slots_fit : (limits : List Limit) (slots : List Slot) → map slot_limit slots ≡ limits → All (FitsCap (cost CAP CAP)) limits → All IsSlot slots
slots_fit limits slots shows all k d low =
    let fits : Limit → Type 0 = FitsCap (cost CAP CAP) in
    subst fits (ap (λ l. get_or l k d.limit) (sym shows) ∙ map_at slot_limit slots k d d.limit low)
    (all k d.limit (subst (λ l. k < length l) shows (subst (λ (n : ℕ). k < n) (sym (length-map slots slot_limit)) low)))

first_limits : (limits : List Limit) → map limit_of (map first_view limits) ≡ limits
first_limits [] = refl
first_limits (l ∷ ls) = ap (λ rest. l ∷ rest) (first_limits ls)

pub limits_made : (limits : List Limit) (ls : List Lane) (slots : List Slot) → map lane_view ls ≡ map first_view limits → map slot_limit slots ≡ limits → map limit_of (map lane_view ls) ≡ map slot_limit slots
limits_made limits ls slots shows are = ap (map limit_of) shows ∙ (first_limits limits ∙ sym are)
