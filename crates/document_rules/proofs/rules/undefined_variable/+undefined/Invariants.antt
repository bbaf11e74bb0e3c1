use Rattle.std.proofs.Common.{◌≡◌, drop, map}
use Rattle.schema_rules.specs.First.{first_of}
use Rattle.gql_base.specs.parts.Values.{values_from}
use Rattle.gql_base.specs.parts.Trees.{value_tree, named_value}
use Rattle.document_rules.specs.Views.{declared_tree}
use Rattle.document_rules.specs.Rules.{undeclared, undefined_in}
use Rattle.document_rules.specs.VariablePlaces.{variables_in_items}
use Rattle.document_rules.proofs.rules.undefined_variable.+undefined.Given as goal

abbrev pub invariant-undefined_in_items-loop-item : goal.invariant-undefined_in_items-loop-item
invariant-undefined_in_items-loop-item l = first_of (undeclared (map declared_tree l.variables.items.items)) (variables_in_items (values_from (map value_tree (drop l.item-index l.items)))) ≡ first_of (undeclared (map declared_tree l.variables.items.items)) (variables_in_items (values_from (map value_tree l.items)))

abbrev pub invariant-undefined_in-loop-field : goal.invariant-undefined_in-loop-field
invariant-undefined_in-loop-field l = undefined_in (map declared_tree l.variables.items.items) (map named_value (drop l.field-index l.fields)) ≡ undefined_in (map declared_tree l.variables.items.items) (map named_value l.fields)
