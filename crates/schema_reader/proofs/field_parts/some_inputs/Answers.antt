use Rattle.std.proofs.Common.{arith, sym, ◌∙◌, map}
use Rattle.std.proofs.lemmas.Result.{err_from_is_err_and}
use Rattle.gql_base.proofs.WayLaws.Loops.{loop_ends, loop_halts, loop_goes_on}
use Rattle.schema_reader.specs.Trees.{input_tree}
use Rattle.schema_reader.proofs.RepeatedParts.{inputs_repeat}
use Rattle.schema_reader.proofs.field_parts.some_inputs.Goals as goal

pub returns-in_err-input-clause-read : goal.returns-in_err-input-clause-read
returns-in_err-input-clause-read c =
    let p = err_from_is_err_and c.from_residual-in_err-input.result c.from_residual-in_err-input.ensures.1 in
    rw (p.1, p.2) (loop_halts (inputs_repeat c.args.close c.args.levels) c.args.source.now c.in_err-input.field-0.0 (map input_tree c.rest.inputs.items) _ _ c.rest.invariant.whole (sym c.is_other.ensures ∙ c.rest-test.true) c.in_err-input.ensures.read)

pub rest-preserved : goal.rest-preserved
rest-preserved c = record {
  whole = loop_goes_on input_tree (inputs_repeat c.args.close c.args.levels) c.rest.inputs.items c.push-in-rest.new.self.items c.in_ok-input.input _ _ _ c.rest.invariant.whole (sym c.is_other.ensures ∙ c.rest-test.true) c.in_ok-input.ensures.read c.in_ok-push-2.ensures.items;
  onward = omega (arith, c.rest.invariant.onward, c.in_ok-input.ensures.within.0);
}

pub returns-clause-read : goal.returns-clause-read
returns-clause-read c = loop_ends (inputs_repeat c.args.close c.args.levels) (map input_tree c.rest.inputs.items) _ _ c.rest.invariant.whole (sym c.is_other.ensures ∙ c.rest-test.false)
