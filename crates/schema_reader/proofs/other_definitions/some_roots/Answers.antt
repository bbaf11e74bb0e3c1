use Rattle.std.proofs.Common.{arith, sym, ◌∙◌, map}
use Rattle.std.proofs.lemmas.Result.{err_from_is_err_and}
use Rattle.gql_base.proofs.WayLaws.Loops.{loop_ends, loop_halts, loop_goes_on}
use Rattle.schema_reader.specs.Trees.{root_tree}
use Rattle.schema_reader.proofs.RepeatedParts.{roots_repeat}
use Rattle.schema_reader.proofs.other_definitions.some_roots.Goals as goal

pub returns-in_err-root-clause-read : goal.returns-in_err-root-clause-read
returns-in_err-root-clause-read c =
    let p = err_from_is_err_and c.from_residual-in_err-root.result c.from_residual-in_err-root.ensures.1 in
    rw (p.1, p.2) (loop_halts roots_repeat c.args.source.now c.in_err-root.field-0.0 (map root_tree c.rest.roots.items) _ _ c.rest.invariant.whole (sym c.is_other.ensures ∙ c.rest-test.true) c.in_err-root.ensures.read)

pub rest-preserved : goal.rest-preserved
rest-preserved c = record {
  whole = loop_goes_on root_tree roots_repeat c.rest.roots.items c.push-in-rest.new.self.items c.in_ok-root.root _ _ _ c.rest.invariant.whole (sym c.is_other.ensures ∙ c.rest-test.true) c.in_ok-root.ensures.read c.in_ok-push-2.ensures.items;
  onward = omega (arith, c.rest.invariant.onward, c.in_ok-root.ensures.within.0);
}

pub returns-clause-read : goal.returns-clause-read
returns-clause-read c = loop_ends roots_repeat (map root_tree c.rest.roots.items) _ _ c.rest.invariant.whole (sym c.is_other.ensures ∙ c.rest-test.false)
