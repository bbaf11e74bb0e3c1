use Rattle.std.proofs.Common.{map, All, subst, ◌∙◌}
use Rattle.std.proofs.lemmas.List.{take_all}
use Rattle.schema_model.specs.Arguments.{arg_data}
use Rattle.variable_coercion.specs.Calls.{AgreeAt}
use Rattle.variable_coercion.proofs.SomeArguments.{agree_more}
use Rattle.variable_coercion.proofs.arguments.arguments_at.Goals as goal

pub places-preserved : goal.places-preserved
places-preserved c = record {
  many = c.in-Ok.ensures.many ∙ c.places.invariant.many;
  so_far = λ args is. agree_more (map arg_data c.places.list.items) (map arg_data c.coerce_at.new.list.items) args c.args.places.now c.places.place-index _ c.places-test.true (c.places.invariant.so_far args is) (c.in-Ok.ensures.put args is c.places.invariant.many);
}

pub returns-in-Err : goal.returns-in-Err
returns-in-Err c = λ args is. c.in-Err.ensures.put args is c.places.invariant.many

pub returns : goal.returns
returns c = λ args is. subst (All (AgreeAt (map arg_data c.places.list.items) args)) (take_all c.places.place-index c.args.places.now c.places-test.false) (c.places.invariant.so_far args is)
