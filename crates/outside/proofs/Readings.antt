-- The readings of a clock, one after the other.
use Rattle.std.proofs.Common.{ℕ, List, [], ◌∷◌, ◌++◌, refl, subst}
use Rattle.std.specs.Prelude.{Option}
use Rattle.outside.specs.Ticks.{Tick, Ticks}

-- no reading
pub ticks_none : (readings : Option (List ℕ)) → Ticks readings [] readings
unfolding Ticks
ticks_none readings = refl

-- one reading
pub ticks_one : (before after : Option (List ℕ)) (seconds : ℕ) → Tick before seconds after → Ticks before (seconds ∷ []) after
unfolding Ticks
ticks_one before after seconds tick = (after, tick, refl)

-- some readings, and then some more
pub ticks_then : (a b c : Option (List ℕ)) (first second : List ℕ) → Ticks a first b → Ticks b second c → Ticks a (first ++ second) c
unfolding Ticks
ticks_then a b c [] second x y = subst (λ (o : Option (List ℕ)). Ticks o second c) x y
ticks_then a b c (seconds ∷ first) second x y = (x.0, x.1, ticks_then x.0 b c first second x.2 y)
