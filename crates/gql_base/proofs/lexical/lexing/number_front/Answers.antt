use Rattle.std.proofs.Common.{◌≡◌, ◌∙◌, sym, Some}
use Rattle.gql_base.specs.lexical.Fronts.{number_found}
use Rattle.gql_base.proofs.LexicalLaws.Numerals.{number_is, integer_is, integer_taken, IntegerThere, front_fits, front_too_great}
use Rattle.gql_base.proofs.lexical.lexing.number_front.Goals as goal

pub returns-then-integer_fits-clause-front : goal.returns-then-integer_fits-clause-front
returns-then-integer_fits-clause-front c =
    let is : number_found c.args.bytes.now ≡ Some c.in-Some.found = sym c.number_found.ensures.found ∙ c.in-Some.is in
    let there : IntegerThere c.args.bytes.now c.in-Some.found.end = integer_is c.args.bytes.now c.in-Some.found c.if-found.false (number_is c.args.bytes.now c.in-Some.found is) in
    front_fits c.args.floats c.args.bytes.now c.in-Some.found is c.if-found.false
    (sym (c.integer_fits.ensures there.minus there.whole (integer_taken c.args.bytes.now c.in-Some.found.end there c.in-Some.ensures.within.1) there.is) ∙ c.if-integer_fits.true)

pub returns-else-integer_fits-clause-front : goal.returns-else-integer_fits-clause-front
returns-else-integer_fits-clause-front c =
    let is : number_found c.args.bytes.now ≡ Some c.in-Some.found = sym c.number_found.ensures.found ∙ c.in-Some.is in
    let there : IntegerThere c.args.bytes.now c.in-Some.found.end = integer_is c.args.bytes.now c.in-Some.found c.if-found.false (number_is c.args.bytes.now c.in-Some.found is) in
    front_too_great c.args.floats c.args.bytes.now c.in-Some.found is c.if-found.false
    (sym (c.integer_fits.ensures there.minus there.whole (integer_taken c.args.bytes.now c.in-Some.found.end there c.in-Some.ensures.within.1) there.is) ∙ c.if-integer_fits.false)
