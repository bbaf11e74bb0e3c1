use Rattle.std.proofs.Common.{◌≡◌, ◌++◌, drop, map, string_bytes}
use Rattle.text_places.specs.Marks.{blank_below}
use Rattle.text_places.proofs.marks.push_blanks.Given as goal

abbrev pub invariant-loop-character : goal.invariant-loop-character
invariant-loop-character l = string_bytes l.into ++ map blank_below (drop l.character-index l.all) ≡ string_bytes l.fn.into ++ map blank_below l.all
