-- Where the next window begins.
use Rattle.std.proofs.Common.{◌≡◌, ℕ, ◌+◌, ◌-◌, ◌*◌, ◌/◌, ◌%◌, ◌<◌, ◌≤◌, ap, ◌∙◌, arith}
use Rattle.std.proofs.lemmas.Nat.{div-add-mod', div-mul-add, mod_below}

pub left_up_to : (moment seconds : ℕ) → 0 < seconds → seconds - moment % seconds ≡ (moment / seconds + 1) * seconds - moment
left_up_to moment seconds some = omega (arith, div-add-mod' moment seconds, mod_below moment seconds some)

pub some_left : (moment seconds : ℕ) → 0 < seconds → 0 < seconds - moment % seconds
some_left moment seconds some = omega (arith, mod_below moment seconds some)

pub next_then : (moment seconds : ℕ) → 0 < seconds → (moment + (seconds - moment % seconds)) / seconds ≡ moment / seconds + 1
next_then moment seconds some =
    let at : moment + (seconds - moment % seconds) ≡ (moment / seconds + 1) * seconds + 0 = omega (arith, div-add-mod' moment seconds, mod_below moment seconds some) in
    ap (λ n. n / seconds) at ∙ div-mul-add (moment / seconds + 1) seconds 0 some

pub same_until : (moment seconds : ℕ) → 0 < seconds → (sooner : ℕ) → sooner < seconds - moment % seconds → (moment + sooner) / seconds ≡ moment / seconds
same_until moment seconds some sooner before =
    let at : moment + sooner ≡ moment / seconds * seconds + (moment % seconds + sooner) = omega (arith, div-add-mod' moment seconds) in
    ap (λ n. n / seconds) at ∙ div-mul-add (moment / seconds) seconds (moment % seconds + sooner) (omega (arith, before, mod_below moment seconds some))
