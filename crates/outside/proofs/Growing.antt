-- The pieces of a text, one after the other.
use Rattle.std.proofs.Common.{sym, subst, ◌≡◌, ◌+◌, ◌-◌, ◌≤◌, ◌++◌, ℕ, List, length, take, drop, arith}
use Rattle.std.proofs.Math.Seq.{take-add}
use Rattle.std.proofs.lemmas.Grind.{common_steps}
use Rattle.std.proofs.lemmas.List.{take_all, length-drop}

-- the items after `done`, by their number
whole_rest : (done : ℕ) (text : List ℕ) → take (length text - done) (drop done text) ≡ drop done text
whole_rest done text = take_all (length text - done) (drop done text) (omega (arith, length-drop done text))

-- the first `done` items, and then `more` of the rest
pub take_further : (done more : ℕ) (text : List ℕ) → take done text ++ take more (take (length text - done) (drop done text)) ≡ take (done + more) text
take_further done more text =
    subst (λ rest. take done text ++ take more rest ≡ take (done + more) text) (sym (whole_rest done text)) (sym (take-add done more text))

-- some of the items after `done` end within the whole
pub within_rest : (done more : ℕ) (text : List ℕ) → more ≤ length (take (length text - done) (drop done text)) → done ≤ length text → done + more ≤ length text
within_rest done more text within inside = grind (arith, common_steps)
