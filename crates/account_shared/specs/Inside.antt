-- How slots and lanes show as accounts and passes, and what holds of each.
use Rattle.std.specs.Prelude.{◌≡◌, ℕ, ◌≤◌, ◌<◌, List, [], map, true, length, get_or, All, vec_capacity}
use Rattle.atomic_table.specs.Seated.{TableId}
use Rattle.crossbeam_utils.specs.Seq.{cell_view}
use Rattle.cost_num.specs.declared.TheConstants.{CAP}
use Rattle.account_core.specs.declared.Limit.{Limit}
use Rattle.account_core.specs.Costs.{cost}
use Rattle.account_core.specs.Numbers.{FitsCap}
use Rattle.account_core.specs.History.{entries_by}
use Rattle.account_core.specs.Sums.{open_grants}
use Rattle.account_cells.specs.Views.{View, no_view}
use Rattle.account_cells.specs.Outcomes.{KnowsCallers}
use Rattle.account_shared.specs.declared.Lane.{Lane}
use Rattle.account_shared.specs.declared.Slot.{Slot}
use Rattle.account_shared.specs.declared.Accounts.TheInside.{Inside as AccountsInside}
use Rattle.account_shared.specs.declared.Passes.TheInside.{Inside}
use Rattle.account_core.specs.declared.Account.{Account}
use Rattle.account_shared.specs.declared.Totals.TheInside.{Inside as TotalsInside}
use Rattle.account_shared.specs.Views.{Label, label_of, KnowsClient, PassesView, AccountsView, JoinsTo}

abbrev pub lane_cell : Lane → TableId
lane_cell l = l.pass.table_id

abbrev pub lane_view : Lane → View
lane_view l = cell_view l.pass

abbrev pub slot_cell : Slot → TableId
slot_cell s = s.cell.table.shared.table_id

abbrev pub slot_limit : Slot → Limit
slot_limit s = s.limit

-- the label is that of the first client's view
abbrev pub label_in : List Lane → Label
label_in lanes = get_or (map (λ l. label_of (lane_view l)) lanes) 0 (label_of no_view)

abbrev pub passes_view : Inside → PassesView
passes_view p =
    record { made = p.made; label = label_in p.lanes.items; cells = map lane_cell p.lanes.items; clients = map lane_view p.lanes.items }

-- a view through which calls can be made
pub record IsReady (made : ℕ) (label : Label) (v : View) : Type 0 where
  pub live : v.live ≡ true
  pub compared : v.shown ≡ []
  pub known : KnowsClient label made v

abbrev pub IsLane : ℕ → Label → Lane → Type 0
IsLane made label l = IsReady made label (lane_view l)

-- all lanes are ready under the one label, and there is one
abbrev pub AreLanes : ℕ → List Lane → Type 0
AreLanes made lanes = All (IsLane made (label_in lanes)) lanes × (0 < length lanes)

abbrev pub passes_hold : Inside → Type 0
passes_hold p = AreLanes p.made p.lanes.items

-- it is the first caller's
abbrev pub IsFirst : View → Type 0
IsFirst v = (v.live ≡ true) × (v.name ≡ 0)

abbrev pub accounts_view : AccountsInside → AccountsView
accounts_view a = record { cells = map slot_cell a.slots.items; limits = map slot_limit a.slots.items }

abbrev pub totals_view : TotalsInside → List Account
totals_view t = t.accounts.items

-- a slot's limit fits the cap of costs
abbrev pub IsSlot : Slot → Type 0
IsSlot s = FitsCap (cost CAP CAP) s.limit

-- each slot is one; the room for the totals is empty and serves for all of them
abbrev pub accounts_hold : AccountsInside → Type 0
accounts_hold a = All IsSlot a.slots.items × (a.room.items ≡ []) × (length a.slots.items ≤ vec_capacity a.room)

-- what a join makes of a view, and of its lane
pub record JoinsReady (other v w : View) : Type 0 where
  pub joins : JoinsTo other v w
  pub callers : KnowsCallers w
  pub own : entries_by w.name w.seen ≡ w.own

abbrev pub JoinsLane : View → Lane → Lane → Type 0
JoinsLane other old new = (lane_cell new ≡ lane_cell old) × JoinsReady other (lane_view old) (lane_view new)

-- no grant of a live view is open
abbrev pub IsIdleView : View → Type 0
IsIdleView v = (v.live ≡ true) × (open_grants v.own ≡ [])

-- nobody is out, and no grant is open
abbrev pub IsAlone : View → Type 0
IsAlone v = (v.out ≡ []) × (open_grants v.own ≡ [])
