use Rattle.std.proofs.Common.{sym, ap, ◌∙◌}
use Rattle.std.proofs.lemmas.Result.{on_ok_weaker}
use Rattle.gql_base.specs.ways.Symbols.{identifier}
use Rattle.gql_base.specs.printing.Printing.{put}
use Rattle.gql_base.specs.printing.Printers.{printed_by}
use Rattle.gql_base.specs.parts.TypeReferences.{list_type, non_null_type}
use Rattle.gql_base.specs.parts.Trees.{type_tree}
use Rattle.gql_base.proofs.PrintingLaws.PrintSteps.{printed_name_type, printed_list_type, printed_non_null}
use Rattle.gql_base.proofs.PartLaws.ValueSteps.{named_type_tree, list_type_tree, non_null_tree}
use Rattle.gql_base.proofs.printing.printed_parts.+write_type.Goals as goal

pub returns-in-Named : goal.returns-in-Named
returns-in-Named t c = on_ok_weaker c.word.result (λ e. printed_name_type (printed_by c.args.printer.now) (printed_by c.word.new.self) c.args.of.now c.in-Named.name.text c.in-Named.name.at (ap type_tree c.in-Named.is ∙ named_type_tree c.in-Named.name) (e ∙ ap (λ b. put (printed_by c.args.printer.now) (identifier b 0)) c.as_str.ensures)) c.word.ensures

pub returns-in_ok-write_type-in-ListOf : goal.returns-in_ok-write_type-in-ListOf
returns-in_ok-write_type-in-ListOf t c = on_ok_weaker c.mark-in-ListOf.result (λ e. printed_list_type (printed_by c.args.printer.now) (printed_by c.mark.new.self) (printed_by c.write_type.new.printer) (printed_by c.mark-in-ListOf.new.self) c.args.of.now (type_tree c.deref.result.now)
    (ap type_tree c.in-ListOf.is ∙ (list_type_tree c.in-ListOf.item ∙ ap (λ x. list_type (type_tree x)) (sym c.deref.ensures))) c.in_ok-mark-in-ListOf.ensures c.in_ok-write_type-in-ListOf.ensures e) c.mark-in-ListOf.ensures

pub returns-in_ok-write_type-in-NonNull : goal.returns-in_ok-write_type-in-NonNull
returns-in_ok-write_type-in-NonNull t c = on_ok_weaker c.mark-in-NonNull.result (λ e. printed_non_null (printed_by c.args.printer.now) (printed_by c.write_type-in-NonNull.new.printer) (printed_by c.mark-in-NonNull.new.self) c.args.of.now (type_tree c.deref-in-NonNull.result.now)
    (ap type_tree c.in-NonNull.is ∙ (non_null_tree c.in-NonNull.of ∙ ap (λ x. non_null_type (type_tree x)) (sym c.deref-in-NonNull.ensures))) c.in_ok-write_type-in-NonNull.ensures e) c.mark-in-NonNull.ensures
