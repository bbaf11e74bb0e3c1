use Rattle.std.proofs.Common.{subst}
use Rattle.std.specs.Prelude.{IfSome}
use Rattle.std.proofs.lemmas.List.Elements.{All-same, All-push}
use Rattle.literal_loads.specs.KnownInputs.{scale_of, IsKnown}
use Rattle.literal_loads.proofs.loads.Loads.know.Goals as goal

pub returns-in_ok-push-in-Some-clause-right : goal.returns-in_ok-push-in-Some-clause-right
returns-in_ok-push-in-Some-clause-right c = λ right.
    let P = IsKnown (scale_of c.args.self.now.of) in
    let known = subst (λ o. IfSome o P) c.in-Some.is c.in_ok-known.ensures.known in
    record { inputs = All-same P _ _ c.in_ok-push-in-Some.ensures.items (All-push P c.args.self.now.known.items c.in-Some.known right.inputs known); values = right.values }
