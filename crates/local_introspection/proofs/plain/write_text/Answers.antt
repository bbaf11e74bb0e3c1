use Rattle.std.proofs.Common.{string_bytes, sym, ◌∙◌}
use Rattle.local_introspection.proofs.PlainTexts.{plain_written}
use Rattle.local_introspection.proofs.plain.write_text.Goals as goal

pub returns-in_ok-push_str-3 : goal.returns-in_ok-push_str-3
returns-in_ok-push_str-3 c =
    plain_written c.args.text.now (string_bytes c.args.into.now) (string_bytes c.push_str.new.self) (string_bytes c.push_str-then-is_plain.new.self) (string_bytes c.push_str-then-is_plain-2.new.self)
    (sym c.is_plain.ensures ∙ c.if-is_plain.true) c.in_ok-push_str.ensures.bytes c.in_ok-push_str-2.ensures.bytes c.in_ok-push_str-3.ensures.bytes
