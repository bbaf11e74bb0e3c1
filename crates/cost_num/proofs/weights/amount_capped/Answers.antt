use Rattle.std.proofs.Common.{subst, sym}
use Rattle.std.specs.Str.Parse.{AllDigits}
use Rattle.cost_num.proofs.Values.{places_digits}
use Rattle.cost_num.proofs.weights.amount_capped.Goals as goal

pub number_capped-requires-2 : goal.number_capped-requires-2
number_capped-requires-2 c = subst (AllDigits 10) (sym c.first_places-places.ensures) (places_digits c.args.fraction.now c.requires.fraction_digits)
