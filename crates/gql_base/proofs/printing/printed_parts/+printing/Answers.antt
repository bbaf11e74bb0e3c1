use Rattle.std.proofs.Common.{refl, sym, ap, ◌∙◌, map}
use Rattle.std.specs.Prelude.{codes}
use Rattle.std.proofs.lemmas.Result.{on_ok_weaker}
use Rattle.gql_base.specs.ways.Symbols.{identifier, integer, decimal, string}
use Rattle.gql_base.specs.printing.Printing.{put}
use Rattle.gql_base.specs.printing.Printers.{printed_by}
use Rattle.gql_base.specs.printing.PrintedTrees.{boolean_name, value_symbols}
use Rattle.gql_base.specs.parts.Values.{integer_value, float_value, string_value, boolean_value, null_value, enum_value, list_value, object_value, values_from, fields_from}
use Rattle.gql_base.specs.parts.Trees.{value_tree, named_value}
use Rattle.gql_base.proofs.PrintingLaws.PrintSteps.{printed_single, printed_variable, printed_tree, printed_list, printed_object, next_value, no_value_left, next_argument, no_argument_left, printed_argument, open_argument}
use Rattle.gql_base.proofs.PartLaws.ValueSteps.{variable_tree, integer_tree, float_tree, string_tree, boolean_tree, null_tree, enum_tree, list_tree, object_tree}
use Rattle.gql_base.proofs.printing.printed_parts.+printing.Goals as goal

pub write_value-returns-in-Int : goal.write_value-returns-in-Int
unfolding value_symbols
write_value-returns-in-Int t c = on_ok_weaker c.integer.result (λ e. printed_single (printed_by c.args.printer.now) (printed_by c.integer.new.self) c.args.value.now (integer_value c.in-Int.value) (integer c.in-Int.value) (ap value_tree c.in-Int.is ∙ integer_tree c.in-Int.value) refl e) c.integer.ensures

pub write_value-returns-in-Float : goal.write_value-returns-in-Float
unfolding value_symbols
write_value-returns-in-Float t c = on_ok_weaker c.decimal.result (λ e. printed_single (printed_by c.args.printer.now) (printed_by c.decimal.new.self) c.args.value.now (float_value c.in-Float.digits) (decimal c.in-Float.digits) (ap value_tree c.in-Float.is ∙ float_tree c.in-Float.digits) refl
    (e ∙ ap (λ b. put (printed_by c.args.printer.now) (decimal b)) c.as_str-in-Float.ensures)) c.decimal.ensures

pub write_value-returns-in-Str : goal.write_value-returns-in-Str
unfolding value_symbols
write_value-returns-in-Str t c = on_ok_weaker c.string.result (λ e. printed_single (printed_by c.args.printer.now) (printed_by c.string.new.self) c.args.value.now (string_value c.in-Str.text) (string c.in-Str.text) (ap value_tree c.in-Str.is ∙ string_tree c.in-Str.text) refl
    (e ∙ ap (λ b. put (printed_by c.args.printer.now) (string b)) c.as_str-in-Str.ensures)) c.string.ensures

pub write_value-returns-in-Bool : goal.write_value-returns-in-Bool
unfolding value_symbols
write_value-returns-in-Bool t c = on_ok_weaker c.word-in-Bool.result (λ e. printed_single (printed_by c.args.printer.now) (printed_by c.word-in-Bool.new.self) c.args.value.now (boolean_value c.in-Bool.value) (identifier (boolean_name c.in-Bool.value) 0) (ap value_tree c.in-Bool.is ∙ boolean_tree c.in-Bool.value) refl
    (e ∙ ap (λ b. put (printed_by c.args.printer.now) (identifier b 0)) c.boolean_name.ensures)) c.word-in-Bool.ensures

pub write_value-returns-in-Null : goal.write_value-returns-in-Null
unfolding value_symbols
write_value-returns-in-Null t c = on_ok_weaker c.word-in-Null.result (λ e. printed_single (printed_by c.args.printer.now) (printed_by c.word-in-Null.new.self) c.args.value.now null_value (identifier (codes "null") 0) (ap value_tree c.in-Null.is ∙ null_tree) refl e) c.word-in-Null.ensures

pub write_value-returns-in-EnumName : goal.write_value-returns-in-EnumName
unfolding value_symbols
write_value-returns-in-EnumName t c = on_ok_weaker c.word-in-EnumName.result (λ e. printed_single (printed_by c.args.printer.now) (printed_by c.word-in-EnumName.new.self) c.args.value.now (enum_value c.in-EnumName.name.text c.in-EnumName.name.at) (identifier c.in-EnumName.name.text 0) (ap value_tree c.in-EnumName.is ∙ enum_tree c.in-EnumName.name) refl
    (e ∙ ap (λ b. put (printed_by c.args.printer.now) (identifier b 0)) c.as_str-in-EnumName.ensures)) c.word-in-EnumName.ensures

pub write_value-returns-in_ok-mark-in-Var : goal.write_value-returns-in_ok-mark-in-Var
write_value-returns-in_ok-mark-in-Var t c = on_ok_weaker c.word.result (λ e. printed_variable (printed_by c.args.printer.now) (printed_by c.mark.new.self) (printed_by c.word.new.self) c.args.value.now c.in-Var.name.text c.in-Var.name.at (ap value_tree c.in-Var.is ∙ variable_tree c.in-Var.name) c.in_ok-mark-in-Var.ensures
    (e ∙ ap (λ b. put (printed_by c.mark.new.self) (identifier b 0)) c.as_str.ensures)) c.word.ensures

pub write_value-returns-in-List : goal.write_value-returns-in-List
write_value-returns-in-List t c = on_ok_weaker c.write_list.result (λ e. printed_tree (printed_by c.args.printer.now) (printed_by c.write_list.new.printer) c.args.value.now (list_value (values_from (map value_tree c.in-List.items.items))) (list_value (values_from (map value_tree c.as_slice.result.now)))
    (ap value_tree c.in-List.is ∙ list_tree c.in-List.items) (ap (λ l. list_value (values_from (map value_tree l))) c.as_slice.ensures.value) e) c.write_list.ensures

pub write_value-returns-in-Object : goal.write_value-returns-in-Object
write_value-returns-in-Object t c = on_ok_weaker c.write_object.result (λ e. printed_tree (printed_by c.args.printer.now) (printed_by c.write_object.new.printer) c.args.value.now (object_value (fields_from (map named_value c.in-Object.fields.items))) (object_value (fields_from (map named_value c.as_slice-in-Object.result.now)))
    (ap value_tree c.in-Object.is ∙ object_tree c.in-Object.fields) (ap (λ l. object_value (fields_from (map named_value l))) c.as_slice-in-Object.ensures.value) e) c.write_object.ensures

pub write_list-returns : goal.write_list-returns
write_list-returns t c = on_ok_weaker c.mark-2.result (λ e. printed_list (printed_by c.args.printer.now) (printed_by c.mark.new.self) (printed_by c.write_values.new.printer) (printed_by c.mark-2.new.self) c.args.items.now c.in_ok-mark.ensures c.in_ok-write_values.ensures e) c.mark-2.ensures

pub write_object-returns : goal.write_object-returns
write_object-returns t c = on_ok_weaker c.mark-2.result (λ e. printed_object (printed_by c.args.printer.now) (printed_by c.mark.new.self) (printed_by c.write_arguments.new.printer) (printed_by c.mark-2.new.self) c.args.fields.now c.in_ok-mark.ensures c.in_ok-write_arguments.ensures e) c.mark-2.ensures

pub write_argument-returns : goal.write_argument-returns
write_argument-returns t c = on_ok_weaker c.write_value.result (λ e. printed_argument (printed_by c.args.printer.now) (printed_by c.word.new.self) (printed_by c.mark.new.self) (printed_by c.write_value.new.printer) c.args.argument.now c.args.argument.now.name.text (value_tree c.args.argument.now.value)
    (ap (λ x. x.0.0) (open_argument c.args.argument.now)) (ap (λ x. x.1) (open_argument c.args.argument.now)) (c.in_ok-word.ensures ∙ ap (λ b. put (printed_by c.args.printer.now) (identifier b 0)) c.as_str.ensures) c.in_ok-mark.ensures e) c.write_value.ensures

pub write_values-loop-item-preserved : goal.write_values-loop-item-preserved
write_values-loop-item-preserved t c = next_value (printed_by c.loop-item.printer) (printed_by c.write_value.new.printer) c.args.items.now c.loop-item.item-index c.item-item.result c.loop-item-test.true c.item-item.is c.in_ok-write_value.ensures ∙ c.loop-item.invariant

pub write_values-returns : goal.write_values-returns
write_values-returns t c = sym (no_value_left (printed_by c.loop-item.printer) c.args.items.now c.loop-item.item-index c.loop-item-test.false) ∙ c.loop-item.invariant

pub write_arguments-loop-argument-preserved : goal.write_arguments-loop-argument-preserved
write_arguments-loop-argument-preserved t c = next_argument (printed_by c.loop-argument.printer) (printed_by c.write_argument.new.printer) c.args.arguments.now c.loop-argument.argument-index c.argument-item.result c.loop-argument-test.true c.argument-item.is c.in_ok-write_argument.ensures ∙ c.loop-argument.invariant

pub write_arguments-returns : goal.write_arguments-returns
write_arguments-returns t c = sym (no_argument_left (printed_by c.loop-argument.printer) c.args.arguments.now c.loop-argument.argument-index c.loop-argument-test.false) ∙ c.loop-argument.invariant
