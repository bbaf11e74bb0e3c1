use Rattle.std.proofs.Common.{arith, sym, ◌∙◌, map}
use Rattle.std.proofs.lemmas.Result.{err_from_is_err_and}
use Rattle.gql_base.proofs.WayLaws.Loops.{loop_ends, loop_halts, loop_goes_on}
use Rattle.schema_reader.specs.Trees.{field_tree}
use Rattle.schema_reader.proofs.RepeatedParts.{fields_repeat}
use Rattle.schema_reader.proofs.field_parts.some_fields.Goals as goal

pub returns-in_err-field-clause-read : goal.returns-in_err-field-clause-read
returns-in_err-field-clause-read c =
    let p = err_from_is_err_and c.from_residual-in_err-field.result c.from_residual-in_err-field.ensures.1 in
    rw (p.1, p.2) (loop_halts (fields_repeat c.args.levels) c.args.source.now c.in_err-field.field-0.0 (map field_tree c.rest.fields.items) _ _ c.rest.invariant.whole (sym c.is_other.ensures ∙ c.rest-test.true) c.in_err-field.ensures.read)

pub rest-preserved : goal.rest-preserved
rest-preserved c = record {
  whole = loop_goes_on field_tree (fields_repeat c.args.levels) c.rest.fields.items c.push-in-rest.new.self.items c.in_ok-field.field _ _ _ c.rest.invariant.whole (sym c.is_other.ensures ∙ c.rest-test.true) c.in_ok-field.ensures.read c.in_ok-push-2.ensures.items;
  onward = omega (arith, c.rest.invariant.onward, c.in_ok-field.ensures.within.0);
}

pub returns-clause-read : goal.returns-clause-read
returns-clause-read c = loop_ends (fields_repeat c.args.levels) (map field_tree c.rest.fields.items) _ _ c.rest.invariant.whole (sym c.is_other.ensures ∙ c.rest-test.false)
