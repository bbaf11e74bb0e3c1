use Rattle.std.proofs.Common.{◌≡◌, drop, map}
use Rattle.schema_model.specs.SchemaViews.{schema_data}
use Rattle.gql_base.specs.parts.Values.{values_from, fields_from}
use Rattle.gql_base.specs.parts.Trees.{value_tree, named_value}
use Rattle.input_values.specs.inputs.Shapes.{shape_tree}
use Rattle.document_rules.specs.Views.{declared_tree}
use Rattle.document_rules.specs.Rules.{misplaced_among}
use Rattle.document_rules.specs.VariablePlaces.{uses_in_items, uses_in_fields}
use Rattle.document_rules.specs.Views.{input_in}
use Rattle.document_rules.proofs.rules.variable_place.+places.Given as goal

abbrev pub invariant-in_items-loop-value : goal.invariant-in_items-loop-value
invariant-in_items-loop-value l = misplaced_among (schema_data l.rule.schema.now) (map declared_tree l.rule.variables.now.items.items) (λ s. uses_in_items s (shape_tree l.item) (values_from (map value_tree (drop l.value-index l.items)))) ≡ misplaced_among (schema_data l.rule.schema.now) (map declared_tree l.rule.variables.now.items.items) (λ s. uses_in_items s (shape_tree l.item) (values_from (map value_tree l.items)))

abbrev pub invariant-in_fields-loop-field : goal.invariant-in_fields-loop-field
invariant-in_fields-loop-field l = misplaced_among (schema_data l.rule.schema.now) (map declared_tree l.rule.variables.now.items.items) (λ s. uses_in_fields s (input_in s l.inputs) (fields_from (map named_value (drop l.field-index l.fields)))) ≡ misplaced_among (schema_data l.rule.schema.now) (map declared_tree l.rule.variables.now.items.items) (λ s. uses_in_fields s (input_in s l.inputs) (fields_from (map named_value l.fields)))
