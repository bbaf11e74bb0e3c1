-- Words that are no two amounts say of no cost that it is the most.
use Rattle.std.proofs.Common.{ℕ, List, [], ◌∷◌, map, get_or, Option, None, Some}
use Rattle.cost_num.specs.declared.Cost.{Cost}
use Rattle.cost_num.specs.Amount.{IsAmount}
use Rattle.cost_num.specs.declared.TheConstants.{CAP}
use Rattle.command_words.specs.Words.{IsMost}

pub no_most : {X : Type 0} (view : X → List ℕ) (z : X) (ws : List X) → ((most : Cost) → IsAmount CAP (view (get_or ws 0 z)) most.types → IsAmount CAP (view (get_or ws 1 z)) most.fields → ⊥)
    → (most : Option Cost) → IsMost (Some (map view ws)) most → ⊥
no_most view z [] none None is = is
no_most view z [] none (Some most) is = is
no_most view z (a ∷ []) none None is = is
no_most view z (a ∷ []) none (Some most) is = is
no_most view z (a ∷ b ∷ []) none None is = is
no_most view z (a ∷ b ∷ []) none (Some most) is = none most is.0 is.1
no_most view z (a ∷ b ∷ c ∷ ws) none None is = is
no_most view z (a ∷ b ∷ c ∷ ws) none (Some most) is = is
