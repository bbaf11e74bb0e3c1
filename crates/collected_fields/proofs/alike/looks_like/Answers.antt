use Rattle.std.proofs.Common.{List, map, subst}
use Rattle.gql_base.specs.declared.parts.trees.Argument.{Argument}
use Rattle.gql_base.specs.parts.Trees.{named_value}
use Rattle.schema_model.specs.SchemaViews.{schema_data}
use Rattle.plan_model.specs.GivenAlike.{AreGivenAlike}
use Rattle.collected_fields.proofs.AlikeLaws.{look_alike}
use Rattle.collected_fields.proofs.alike.looks_like.Goals as goal

pub returns : goal.returns
returns c = λ is. look_alike (schema_data c.args.schema.now) c.args.field.now c.args.other.now (c.same_key.ensures c.if-not-same_key.false) (c.same_name.ensures c.if-not-same_name.false) (c.ask_alike.ensures c.if-not-ask_alike.false)
    (subst (λ (xs : List Argument). AreGivenAlike (map named_value xs) (map named_value c.args.other.now.field.now.arguments.items)) c.as_slice-arguments.ensures.value
    (subst (λ (xs : List Argument). AreGivenAlike (map named_value c.as_slice-arguments.result.now) (map named_value xs)) c.as_slice-others.ensures.value (c.alike_arguments.ensures is)))
