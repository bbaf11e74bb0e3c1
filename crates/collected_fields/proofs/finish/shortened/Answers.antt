use Rattle.std.proofs.Common.{◌∙◌, subst, ap, map}
use Rattle.schema_model.specs.SchemaViews.{schema_data}
use Rattle.collected_fields.specs.Views.{collected_field}
use Rattle.collected_fields.specs.Serving.{with_number}
use Rattle.collected_fields.specs.Lists.{MayStandForAll}
use Rattle.collected_fields.proofs.FinishLaws.{short_copied, shortened_joined}
use Rattle.collected_fields.proofs.finish.shortened.Goals as goal

pub returns-then-fields-lt-FEW-clause-shortened : goal.returns-then-fields-lt-FEW-clause-shortened
returns-then-fields-lt-FEW-clause-shortened c = short_copied (schema_data c.args.schema.now) c.args.joins.now c.args.fields.now _ c.in_ok-copied.ensures

pub returns-in-Some-clause-shortened : goal.returns-in-Some-clause-shortened
returns-in-Some-clause-shortened c = shortened_joined (schema_data c.args.schema.now) c.args.joins.now c.one.new.self c.args.fields.now c.in_ok-unlike.unlike.items c.in_ok-with_number-in-Some.field-0.items c.as_slice.result.now c.in-Some.number
    c.one.ensures.count c.one.ensures.more c.in_ok-unlike.ensures (c.as_slice.ensures.value ∙ c.in_ok-numbers.ensures) (subst (λ o. MayStandForAll c.args.joins.now c.one.new.self c.as_slice.result.now o) c.in-Some.is c.in_ok-number.ensures.one)
    (c.in_ok-with_number-in-Some.ensures ∙ ap (λ cs. with_number c.in-Some.number c.one.new.self.count (map collected_field cs)) c.as_slice-in-Some.ensures.value)
