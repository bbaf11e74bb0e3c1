use Rattle.std.proofs.Common.{◌≡◌, ◌++◌, IsUtf8, string_bytes}
use Rattle.std.specs.Str.Iter.{chars_rest}
use Rattle.gql_base.specs.printing.OneLine.{shown_in_line}
use Rattle.gql_base.proofs.printing.lines.push_shown.Given as goal

abbrev pub invariant-loop-character : goal.invariant-loop-character
invariant-loop-character l = IsUtf8 (chars_rest l.character-iterator) × (string_bytes l.into ++ shown_in_line (chars_rest l.character-iterator) ≡ string_bytes l.fn.into ++ shown_in_line l.fn.text)
