use Rattle.std.proofs.Common.{arith, sym, ◌∙◌, map}
use Rattle.std.proofs.lemmas.Result.{err_from_is_err_and}
use Rattle.gql_base.proofs.WayLaws.Loops.{loop_ends, loop_halts, loop_goes_on}
use Rattle.gql_base.specs.parts.Trees.{directive_tree}
use Rattle.gql_base.proofs.PartLaws.ArgumentLaws.{directives_repeat}
use Rattle.gql_base.proofs.parts.arguments.directives.Goals as goal

pub returns-in_err-directive-clause-read : goal.returns-in_err-directive-clause-read
returns-in_err-directive-clause-read c =
    let p = err_from_is_err_and c.from_residual.result c.from_residual.ensures.1 in
    rw (p.1, p.2) (loop_halts (directives_repeat c.args.constant c.args.levels) c.args.source.now c.in_err-directive.field-0.0 (map directive_tree c.rest.directives.items) _ _ c.rest.invariant.whole (sym c.is.ensures ∙ c.rest-test.true) c.in_err-directive.ensures.read)

pub rest-preserved : goal.rest-preserved
rest-preserved c = record {
  whole = loop_goes_on directive_tree (directives_repeat c.args.constant c.args.levels) c.rest.directives.items c.push.new.self.items c.in_ok-directive.directive _ _ _ c.rest.invariant.whole (sym c.is.ensures ∙ c.rest-test.true) c.in_ok-directive.ensures.read c.in_ok-push.ensures.items;
  onward = omega (arith, c.rest.invariant.onward, c.in_ok-directive.ensures.within.0);
  short = λ h. c.in_ok-directive.ensures.within.1;
}

pub returns-clause-read : goal.returns-clause-read
returns-clause-read c = loop_ends (directives_repeat c.args.constant c.args.levels) (map directive_tree c.rest.directives.items) _ _ c.rest.invariant.whole (sym c.is.ensures ∙ c.rest-test.false)
