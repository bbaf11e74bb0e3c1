use Rattle.std.proofs.Common.{map, sym, ap, ◌∙◌}
use Rattle.std.proofs.lemmas.Bool.{eqb-true}
use Rattle.gql_base.specs.parts.Trees.{named_value}
use Rattle.collected_fields.specs.Views.{setting_of_planning, collected_field}
use Rattle.merged_selections.proofs.MadeCalls.{unsliced_finds, sliced_finds}
use Rattle.merged_selections.proofs.call.sizes_of.Goals as goal

pub returns-then-is_empty : goal.returns-then-is_empty
returns-then-is_empty c = λ coerced. unsliced_finds (setting_of_planning c.args.planning.now) c.args.of.number (collected_field c.args.field.now) c.slicing-places.result.now (record { list = c.new.result }) c.slicing-places.ensures (eqb-true _ _ (sym c.is_empty.ensures ∙ c.if-is_empty.true))

pub returns : goal.returns
returns c = sliced_finds (setting_of_planning c.args.planning.now) c.args.of.number (collected_field c.args.field.now) c.as_slice-written.result.now c.slicing-places.result.now c.coerce_arguments_at.result c.slicing-places.ensures (ap (map named_value) (sym c.as_slice-written.ensures.value)) c.coerce_arguments_at.ensures
