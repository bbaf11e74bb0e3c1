use Rattle.std.proofs.Common.{◌≡◌, ◌<◌, ◌++◌, OnOk, string_bytes, sym, ap, ◌∙◌, subst}
use Rattle.std.specs.Char.{encode_utf8}
use Rattle.gql_base.specs.printing.OneLine.{control_number}
use Rattle.gql_base.proofs.PrintingLaws.OneLine.{control_small, character_as_is, character_as_number, pushed_where_ok}
use Rattle.gql_base.proofs.printing.lines.push_character.Goals as goal

pub returns-then-is_ascii_control : goal.returns-then-is_ascii_control
returns-then-is_ascii_control c =
    subst (λ xs. OnOk c.push_number.result (string_bytes c.push_number.new.into ≡ string_bytes c.args.into.now ++ xs))
    (ap control_number c.from.ensures ∙ sym (character_as_number c.args.character (sym c.is_ascii_control.ensures.value ∙ c.if-is_ascii_control.true)))
    c.push_number.ensures

pub returns-else-is_ascii_control : goal.returns-else-is_ascii_control
returns-else-is_ascii_control c =
    subst (λ xs. OnOk c.push.result (string_bytes c.push.new.self ≡ string_bytes c.args.into.now ++ xs))
    (sym (character_as_is c.args.character (sym c.is_ascii_control.ensures.value ∙ c.if-is_ascii_control.false)))
    (pushed_where_ok c.push.result (string_bytes c.push.new.self) (string_bytes c.args.into.now) (encode_utf8 c.args.character) c.push.ensures.bytes)

pub push_number-requires : goal.push_number-requires
push_number-requires c = subst (λ n. n < 128) (sym c.from.ensures) (control_small c.args.character (sym c.is_ascii_control.ensures.value ∙ c.if-is_ascii_control.true))
