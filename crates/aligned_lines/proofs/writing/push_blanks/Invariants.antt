use Rattle.std.proofs.Common.{◌≡◌, ◌++◌, replicate}
use Rattle.aligned_lines.proofs.writing.push_blanks.Given as goal

abbrev pub invariant-loop-done : goal.invariant-loop-done
invariant-loop-done l = l.into.items ≡ l.fn.into.items ++ replicate l.done 32
