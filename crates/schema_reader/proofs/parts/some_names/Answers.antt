use Rattle.std.proofs.Common.{arith, sym, ◌∙◌}
use Rattle.std.proofs.lemmas.Result.{err_from_is_err_and}
use Rattle.gql_base.proofs.WayLaws.Loops.{loop_ends, loop_halts, loop_goes_on_plain}
use Rattle.schema_reader.proofs.RepeatedParts.{names_repeat}
use Rattle.schema_reader.proofs.parts.some_names.Goals as goal

pub returns-in_err-name-clause-read : goal.returns-in_err-name-clause-read
returns-in_err-name-clause-read c =
    let p = err_from_is_err_and c.from_residual-in_err-name.result c.from_residual-in_err-name.ensures.1 in
    rw (p.1, p.2) (loop_halts (names_repeat c.args.mark) c.args.source.now c.in_err-name.field-0.0 c.rest.names.items _ _ c.rest.invariant.whole (sym c.is.ensures ∙ c.rest-test.true) c.in_err-name.ensures.read)

pub rest-preserved : goal.rest-preserved
rest-preserved c = record {
  whole = loop_goes_on_plain (names_repeat c.args.mark) c.rest.names.items c.push-in-rest.new.self.items c.in_ok-name.name _ _ _ c.rest.invariant.whole (sym c.is.ensures ∙ c.rest-test.true) c.in_ok-name.ensures.read c.in_ok-push-2.ensures.items;
  onward = omega (arith, c.rest.invariant.onward, c.in_ok-name.ensures.within.0);
  short = c.in_ok-name.ensures.within.1;
}

pub returns-clause-read : goal.returns-clause-read
returns-clause-read c = loop_ends (names_repeat c.args.mark) c.rest.names.items _ _ c.rest.invariant.whole (sym c.is.ensures ∙ c.rest-test.false)
