use Rattle.std.proofs.Common.{◌<◌, string_bytes, subst}
use Rattle.std.specs.Prelude.{SomeIff}
use Rattle.std.specs.Char.{digit_char}
use Rattle.gql_base.proofs.PrintingLaws.OneLine.{upper_pushed}
use Rattle.gql_base.proofs.printing.printer.push_digit.Goals as goal

pub returns-in-Some : goal.returns-in-Some
returns-in-Some c =
    upper_pushed c.push.result (string_bytes c.push.new.self) (string_bytes c.args.into.now) c.in-Some.character c.to_ascii_uppercase.result c.args.digit c.requires
    (subst (λ o. SomeIff o (c.args.digit < 16) (digit_char c.args.digit)) c.in-Some.is c.from_digit.ensures.value).1 c.to_ascii_uppercase.ensures.value c.push.ensures.bytes
