use Rattle.std.proofs.Common.{◌≡◌, ◌<◌, ◌++◌, OnOk, string_bytes, sym, ap, ◌∙◌, subst}
use Rattle.std.specs.Char.{encode_utf8}
use Rattle.gql_base.specs.printing.Printing.{escape_number}
use Rattle.gql_base.proofs.PrintingLaws.OneLine.{control_small, numbered_control, numbered_plain, pushed_where_ok}
use Rattle.gql_base.proofs.printing.printer.push_other.Goals as goal

pub returns-then-is_ascii_control : goal.returns-then-is_ascii_control
returns-then-is_ascii_control c =
    subst (λ xs. OnOk c.push_control.result (string_bytes c.push_control.new.into ≡ string_bytes c.args.into.now ++ xs))
    (ap escape_number c.from.ensures ∙ sym (numbered_control c.args.character (sym c.is_ascii_control.ensures.value ∙ c.if-is_ascii_control.true)))
    c.push_control.ensures

pub returns-else-is_ascii_control : goal.returns-else-is_ascii_control
returns-else-is_ascii_control c =
    subst (λ xs. OnOk c.push.result (string_bytes c.push.new.self ≡ string_bytes c.args.into.now ++ xs))
    (sym (numbered_plain c.args.character (sym c.is_ascii_control.ensures.value ∙ c.if-is_ascii_control.false)))
    (pushed_where_ok c.push.result (string_bytes c.push.new.self) (string_bytes c.args.into.now) (encode_utf8 c.args.character) c.push.ensures.bytes)

pub push_control-requires : goal.push_control-requires
push_control-requires c = subst (λ n. n < 128) (sym c.from.ensures) (control_small c.args.character (sym c.is_ascii_control.ensures.value ∙ c.if-is_ascii_control.true))
