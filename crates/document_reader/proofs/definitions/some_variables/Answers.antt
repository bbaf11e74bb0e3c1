use Rattle.std.proofs.Common.{arith, sym, ◌∙◌, map}
use Rattle.std.proofs.lemmas.Result.{err_from_is_err_and}
use Rattle.document_reader.specs.Trees.{variable_tree}
use Rattle.gql_base.proofs.WayLaws.Loops.{loop_ends, loop_halts, loop_goes_on}
use Rattle.document_reader.proofs.DefinitionSteps.{variables_repeat}
use Rattle.document_reader.proofs.definitions.some_variables.Goals as goal

pub returns-in_err-variable-clause-read : goal.returns-in_err-variable-clause-read
returns-in_err-variable-clause-read c =
    let p = err_from_is_err_and c.from_residual-in_err-variable.result c.from_residual-in_err-variable.ensures.1 in
    rw (p.1, p.2) (loop_halts (variables_repeat c.args.levels) c.args.source.now c.in_err-variable.field-0.0 (map variable_tree c.rest.variables.items) _ _ c.rest.invariant.whole (sym c.is_other.ensures ∙ c.rest-test.true) c.in_err-variable.ensures.read)

pub rest-preserved : goal.rest-preserved
rest-preserved c = record {
  whole = loop_goes_on variable_tree (variables_repeat c.args.levels) c.rest.variables.items c.push-in-rest.new.self.items c.in_ok-variable.variable _ _ _ c.rest.invariant.whole (sym c.is_other.ensures ∙ c.rest-test.true) c.in_ok-variable.ensures.read c.in_ok-push-2.ensures.items;
  onward = omega (arith, c.rest.invariant.onward, c.in_ok-variable.ensures.within.0);
}

pub returns-clause-read : goal.returns-clause-read
returns-clause-read c = loop_ends (variables_repeat c.args.levels) (map variable_tree c.rest.variables.items) _ _ c.rest.invariant.whole (sym c.is_other.ensures ∙ c.rest-test.false)
