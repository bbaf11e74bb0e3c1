use Rattle.std.proofs.Common.{◌≡◌, ◌*◌, ◌∙◌, ℕ, drop, take, arith, subst}
use Rattle.std.proofs.lemmas.List.{length-drop}
use Rattle.account_journal.proofs.Present.{looked_at}
use Rattle.account_journal.proofs.slots.read_slot.Goals as goal

pub returns-clause-looked : goal.returns-clause-looked
returns-clause-looked g c b told =
    let rest = drop (64 * c.args.slot) b in
    let full : c.in_ok-count.count ≡ 65 = omega (arith, c.in_ok-count.ensures.within, c.if-count-lt65.false) in
    let bytes = subst (λ (n : ℕ). take n c.read.new.into ≡ take 65 rest) full (c.in_ok-count.ensures.bytes b told) in
    let l = looked_at 65 c.read.new.into rest c.in_ok-count.ensures.length bytes (omega (arith, full, c.in_ok-count.ensures.all b told, length-drop (64 * c.args.slot) b)) c.if-piece-ne1.false in
    (l.0, c.copy_from_slice.ensures.after ∙ l.1)
