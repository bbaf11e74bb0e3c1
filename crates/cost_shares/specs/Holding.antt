-- What stands by depth, as the pass over rows keeps it.
use Rattle.std.specs.Prelude.{◌≡◌, ◌<◌, ℕ, get_or}
use Rattle.cost_num.specs.Capped.{capped}
use Rattle.cost_shares.specs.declared.passing.ObjectsByDepth.{ObjectsByDepth}
use Rattle.cost_shares.specs.Shares.{NodeShare}
use Rattle.cost_shares.specs.Passing.{Standing}

-- At each depth it has what stands there, counts up to just above the cap.
abbrev pub HoldsStanding : Standing → ObjectsByDepth → Type 0
HoldsStanding t b = (d : ℕ) → d < 52 → (get_or b.counts d 0 ≡ capped (t.objects d)) × (get_or b.types d 0 ≡ t.types d)

-- a share whose numbers all stop just above the cap
abbrev pub capped_share : NodeShare → NodeShare
capped_share s = record { times = capped s.times; values = capped s.values; adds = capped s.adds }
