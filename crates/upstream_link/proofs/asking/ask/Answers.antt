-- One dial was made, and what was exchanged over it stays when it is hung up.
use Rattle.std.proofs.Common.{◌∷◌, [], ◌⊎◌, subst, sym, inl, inr}
use Rattle.outside.specs.Dials.{Logged, fresh_dial}
use Rattle.outside.proofs.Dialling.{logged_last}
use Rattle.upstream_link.specs.Exchanges.{WasCutOff, WasAnswered}
use Rattle.upstream_link.proofs.asking.ask.Goals as goal

pub returns-clause-exact : goal.returns-clause-exact
returns-clause-exact g c =
    let went = c.exchange-answer.ensures.exact in
    let r = c.exchange-answer.result in
    let dial = went.change fresh_dial in
    let before = g.W.Wire.log c.args.wire.now in
    let logged = logged_last went.change before (g.W.Wire.log c.dial.new.self) (g.W.Wire.log c.exchange-answer.new.wire) fresh_dial c.in-Ok-dial.ensures.logged went.becomes in (
      dial ∷ [],
      inl (subst (Logged before (dial ∷ [])) (sym c.hang_up.ensures.log) logged),
      inr (subst (λ l. WasCutOff l r dial ⊎ WasAnswered l r dial) c.in-Ok.ensures.bytes went.came_to),
    )
