use Rattle.std.proofs.Common.{◌≡◌, ◌++◌, IsUtf8, string_bytes}
use Rattle.std.specs.Str.Iter.{chars_rest}
use Rattle.gql_base.specs.printing.Printing.{all_escaped}
use Rattle.gql_base.proofs.printing.printer.push_all_escaped.Given as goal

abbrev pub invariant-loop-character : goal.invariant-loop-character
invariant-loop-character l = IsUtf8 (chars_rest l.character-iterator) × (string_bytes l.into ++ all_escaped (chars_rest l.character-iterator) ≡ string_bytes l.fn.into ++ all_escaped l.fn.text)
