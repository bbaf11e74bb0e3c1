use Rattle.std.proofs.Common.{◌≡◌, ◌≤◌}
use Rattle.text_places.specs.Places.{lines_ended, line_start}
use Rattle.text_places.proofs.places.lines_before.Given as goal

-- So far.
abbrev pub invariant-loop-index : goal.invariant-loop-index
invariant-loop-index l = record {
  ended : l.ended ≡ lines_ended l.bytes l.index;
  start : l.start ≡ line_start l.bytes l.index;
  few : l.ended ≤ l.index;
  before : l.start ≤ l.index;
}
