-- What the program's forms of weights stand for.
use Rattle.std.specs.Prelude.{List, map, Option, None, Some, if◌then◌else◌}
use Rattle.std.specs.Borrow.{Bor}
use Rattle.input_values.specs.inputs.Shapes.{shape_tree}
use Rattle.input_values.specs.declared.inputs.definition.InputDef.{InputDef}
use Rattle.input_values.specs.inputs.Definitions.{InputData, input_data}
use Rattle.schema_model.specs.declared.args.Arg.{Arg}
use Rattle.schema_model.specs.Arguments.{ArgData, arg_data}
use Rattle.cost_directives.specs.declared.entries.InputWeight.{InputWeight}
use Rattle.cost_directives.specs.declared.entries.TypeWeight.{TypeWeight}
use Rattle.cost_directives.specs.declared.entries.FieldWeight.{FieldWeight}
use Rattle.cost_directives.specs.declared.weights.Weights.{Weights}
use Rattle.cost_directives.specs.declared.entries.SizeRule.{SizeRule}
use Rattle.cost_directives.specs.ArgumentCosts.{InputWeightData}
use Rattle.cost_directives.specs.DeclaredSizes.{SizeRuleData, no_arg}
use Rattle.cost_directives.specs.Weights.{TypeWeightData, FieldWeightData, WeightsData, no_field_weight}

abbrev pub input_weight : InputWeight → InputWeightData
input_weight i = record { name = i.name; shape = shape_tree i.shape; own = i.own }

-- the fields of an input object type
abbrev pub type_inputs : TypeWeight → Option (List InputWeightData)
type_inputs t = if t.is_object then Some (map input_weight t.inputs.items.items) else None

abbrev pub maybe_input : Option (Bor InputWeight) → Option InputWeightData
maybe_input None = None
maybe_input (Some i) = Some (input_weight i.now)

-- the fields of an input object type that was found
abbrev pub inputs_seen : Option (Bor TypeWeight) → Option (List InputWeightData)
inputs_seen None = None
inputs_seen (Some t) = Some (map input_weight t.now.inputs.items.items)

abbrev pub weighed_inputs : Option (Bor (List InputWeight)) → Option (List InputWeightData)
weighed_inputs None = None
weighed_inputs (Some inputs) = Some (map input_weight inputs.now)

abbrev pub maybe_arg : Option (Bor Arg) → ArgData
maybe_arg None = no_arg
maybe_arg (Some arg) = arg_data arg.now

abbrev pub size_rule : SizeRule → SizeRuleData
size_rule r = record { assumed = r.assumed; slicing = r.slicing.items; require_one = r.require_one; sized = r.sized.items; is_free = r.is_free }

abbrev pub type_weight : TypeWeight → TypeWeightData
type_weight t = record { weight = t.weight; inputs = type_inputs t }

abbrev pub field_weight : FieldWeight → FieldWeightData
field_weight f = record { weight = f.weight; arguments = map input_weight f.arguments.items; size = size_rule f.size }

-- the data of weights
abbrev pub weights_data : Weights → WeightsData
weights_data w = record { types = map type_weight w.types.items; fields = map field_weight w.fields.items; undeclared = w.undeclared }

abbrev pub field_seen : Option (Bor FieldWeight) → FieldWeightData
field_seen None = no_field_weight
field_seen (Some f) = field_weight f.now

abbrev pub maybe_argument : Option (Bor InputDef) → Option InputData
maybe_argument None = None
maybe_argument (Some d) = Some (input_data d.now)
