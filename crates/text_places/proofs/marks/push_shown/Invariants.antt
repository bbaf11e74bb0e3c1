use Rattle.std.proofs.Common.{◌≡◌, ◌++◌, drop, map, string_bytes}
use Rattle.std.specs.Str.{encode_utf8_all}
use Rattle.text_places.specs.Marks.{shown}
use Rattle.text_places.proofs.marks.push_shown.Given as goal

abbrev pub invariant-loop-character : goal.invariant-loop-character
invariant-loop-character l = string_bytes l.into ++ encode_utf8_all (map shown (drop l.character-index l.all)) ≡ string_bytes l.fn.into ++ encode_utf8_all (map shown l.all)
