-- The texts are computed, with the letters of strings and the one digit of a number.
use Rattle.std.proofs.Common.{◌<◌, refl, arith}
use Rattle.std.proofs.lemmas.Fmt.{decimal_digit}
use Rattle.json.specs.Print.{escape_byte}
use Rattle.response_model.proofs.examples.response_texts.Goals as goal

pub returns-clause-data : goal.returns-clause-data
unfolding escape_byte
returns-clause-data c = refl

pub returns-clause-list : goal.returns-clause-list
unfolding escape_byte
returns-clause-list c = refl

pub returns-clause-errors : goal.returns-clause-errors
unfolding escape_byte
returns-clause-errors c = let small : 1 < 10 = omega arith in rw (decimal_digit 1 small) refl

pub returns-clause-both : goal.returns-clause-both
unfolding escape_byte
returns-clause-both c = refl
