use Rattle.std.proofs.Common.{arith, sym, ◌∙◌, map}
use Rattle.std.proofs.lemmas.Result.{err_from_is_err_and}
use Rattle.gql_base.proofs.WayLaws.Loops.{loop_ends, loop_halts, loop_goes_on}
use Rattle.schema_reader.specs.Trees.{enum_value_tree}
use Rattle.schema_reader.proofs.RepeatedParts.{enum_values_repeat}
use Rattle.schema_reader.proofs.enum_parts.some_enum_values.Goals as goal

pub returns-in_err-value-clause-read : goal.returns-in_err-value-clause-read
returns-in_err-value-clause-read c =
    let p = err_from_is_err_and c.from_residual-in_err-value.result c.from_residual-in_err-value.ensures.1 in
    rw (p.1, p.2) (loop_halts (enum_values_repeat c.args.levels) c.args.source.now c.in_err-value.field-0.0 (map enum_value_tree c.rest.values.items) _ _ c.rest.invariant.whole (sym c.is_other.ensures ∙ c.rest-test.true) c.in_err-value.ensures.read)

pub rest-preserved : goal.rest-preserved
rest-preserved c = record {
  whole = loop_goes_on enum_value_tree (enum_values_repeat c.args.levels) c.rest.values.items c.push-in-rest.new.self.items c.in_ok-value.value _ _ _ c.rest.invariant.whole (sym c.is_other.ensures ∙ c.rest-test.true) c.in_ok-value.ensures.read c.in_ok-push-2.ensures.items;
  onward = omega (arith, c.rest.invariant.onward, c.in_ok-value.ensures.within.0);
}

pub returns-clause-read : goal.returns-clause-read
returns-clause-read c = loop_ends (enum_values_repeat c.args.levels) (map enum_value_tree c.rest.values.items) _ _ c.rest.invariant.whole (sym c.is_other.ensures ∙ c.rest-test.false)
