use Rattle.std.proofs.Common.{arith, ◌≤◌, ◌≡◌, Some, Result, map, length, refl, sym, ap, ◌∙◌}
use Rattle.std.specs.Prelude.{option_map}
use Rattle.std.specs.List.{slice_get}
use Rattle.std.proofs.lemmas.List.{length-map, length-set}
use Rattle.std.proofs.lemmas.Option.{slice_get-map, slice_get_read}
use Rattle.input_values.specs.inputs.Definitions.{InputData, input_data}
use Rattle.schema_model.specs.InputForms.{schema_forms}
use Rattle.schema_model.specs.Arguments.{ArgData, arg_data}
use Rattle.variable_coercion.specs.Refusals.{Refusal}
use Rattle.variable_coercion.specs.Arguments.{argument_given, argument_answer}
use Rattle.variable_coercion.specs.Calls.{environment, argument_told}
use Rattle.variable_coercion.proofs.SomeArguments.{as_many, given_at, given_as, none_told, puts_one, puts_none}
use Rattle.variable_coercion.proofs.arguments.coerce_at.Goals as goal

pub returns-in-Ok-clause-many : goal.returns-in-Ok-clause-many
returns-in-Ok-clause-many c = ap length c.put_argument.ensures ∙ length-set c.args.list.now.items c.args.place c.in-Ok.argument

pub returns-in-Ok-clause-put : goal.returns-in-Ok-clause-put
returns-in-Ok-clause-put c = λ args is long.
    let answer : InputData → Result ArgData Refusal = (λ i. argument_answer (schema_forms c.args.schema.now) i (argument_given (environment c.args.variables.now) c.args.written.now.items.now i.name)) in
    let found = c.in-Some.ensures.lookup in
    let there : slice_get (map input_data c.args.inputs.now) c.args.place ≡ Some (input_data c.in-Some.input.now) = slice_get-map input_data c.args.inputs.now c.args.place ∙ ap (option_map input_data) (slice_get_read c.args.inputs.now _ c.args.place c.in-Some.input.now refl found.3.0 found.1) in
    puts_one arg_data c.args.list.now.items args c.args.place (long ∙ (sym (length-map c.args.inputs.now input_data) ∙ sym (as_many answer (map input_data c.args.inputs.now) args is))) c.put_argument.new.list.items c.in-Ok.argument c.put_argument.ensures
    (given_as answer (map input_data c.args.inputs.now) args c.args.place (input_data c.in-Some.input.now) (arg_data c.in-Ok.argument) is there c.in-Ok.ensures)

pub returns-in-Err-clause-put : goal.returns-in-Err-clause-put
returns-in-Err-clause-put c = λ args is long.
    let answer : InputData → Result ArgData Refusal = (λ i. argument_answer (schema_forms c.args.schema.now) i (argument_given (environment c.args.variables.now) c.args.written.now.items.now i.name)) in
    let found = c.in-Some.ensures.lookup in
    let there : slice_get (map input_data c.args.inputs.now) c.args.place ≡ Some (input_data c.in-Some.input.now) = slice_get-map input_data c.args.inputs.now c.args.place ∙ ap (option_map input_data) (slice_get_read c.args.inputs.now _ c.args.place c.in-Some.input.now refl found.3.0 found.1) in
    let given = given_at answer (map input_data c.args.inputs.now) args c.args.place (input_data c.in-Some.input.now) is there in
    none_told (argument_told c.in-Err.fault) (answer (input_data c.in-Some.input.now)) given.0 given.1 c.in-Err.ensures

pub returns-in-None-clause-put : goal.returns-in-None-clause-put
returns-in-None-clause-put c = λ args is long.
    let many : length args ≡ length (map input_data c.args.inputs.now) = as_many (λ i. argument_answer (schema_forms c.args.schema.now) i (argument_given (environment c.args.variables.now) c.args.written.now.items.now i.name)) (map input_data c.args.inputs.now) args is in
    let seen : length (map input_data c.args.inputs.now) ≡ length c.args.inputs.now = length-map c.args.inputs.now input_data in
    let past : length c.args.inputs.now ≤ c.args.place = c.in-None.ensures.lookup.3 in
    puts_none arg_data c.args.list.now.items args c.args.place (long ∙ sym (many ∙ seen)) (omega (arith, many, seen, past))
