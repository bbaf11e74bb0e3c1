use Rattle.std.proofs.Common.{arith, sym, ◌∙◌, map}
use Rattle.std.proofs.lemmas.Result.{err_from_is_err_and}
use Rattle.gql_base.specs.parts.Trees.{named_value}
use Rattle.gql_base.proofs.WayLaws.Loops.{loop_ends, loop_halts, loop_goes_on}
use Rattle.gql_base.proofs.PartLaws.ArgumentLaws.{arguments_repeat}
use Rattle.gql_base.proofs.parts.arguments.some_arguments.Goals as goal

pub returns-in_err-argument-clause-read : goal.returns-in_err-argument-clause-read
returns-in_err-argument-clause-read c =
    let p = err_from_is_err_and c.from_residual-in_err-argument.result c.from_residual-in_err-argument.ensures.1 in
    rw (p.1, p.2) (loop_halts (arguments_repeat c.args.constant c.args.levels) c.args.source.now c.in_err-argument.field-0.0 (map named_value c.rest.arguments.items) _ _ c.rest.invariant.whole (sym c.is_other.ensures ∙ c.rest-test.true) c.in_err-argument.ensures.read)

pub rest-preserved : goal.rest-preserved
rest-preserved c = record {
  whole = loop_goes_on named_value (arguments_repeat c.args.constant c.args.levels) c.rest.arguments.items c.push-in-rest.new.self.items c.in_ok-argument.argument _ _ _ c.rest.invariant.whole (sym c.is_other.ensures ∙ c.rest-test.true) c.in_ok-argument.ensures.read c.in_ok-push-2.ensures.items;
  onward = omega (arith, c.rest.invariant.onward, c.in_ok-argument.ensures.within.0);
}

pub returns-clause-read : goal.returns-clause-read
returns-clause-read c = loop_ends (arguments_repeat c.args.constant c.args.levels) (map named_value c.rest.arguments.items) _ _ c.rest.invariant.whole (sym c.is_other.ensures ∙ c.rest-test.false)
