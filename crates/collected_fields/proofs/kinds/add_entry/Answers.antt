use Rattle.std.proofs.Common.{option_map, sym, subst, Option, OnOk}
use Rattle.input_values.specs.declared.inputs.shape.TypeId.{TypeId}
use Rattle.schema_model.specs.Numbers.{type_number}
use Rattle.collected_fields.specs.Kinds.{AddsEntry}
use Rattle.collected_fields.proofs.kinds.add_entry.Goals as goal

pub returns-in-Some : goal.returns-in-Some
returns-in-Some c = subst (λ (on : Option TypeId). OnOk c.add.result (AddsEntry c.args.conditions.now.items c.add.new.conditions.items (option_map type_number on, c.args.entry.now.list))) (sym c.in-Some.is) c.add.ensures
