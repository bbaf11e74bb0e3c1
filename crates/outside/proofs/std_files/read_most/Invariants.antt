-- What was read so far is what the reader lost, and no more than the limit and one byte.
use Rattle.std.proofs.Common.{◌≤◌, ◌+◌, ◌-◌, vec_len}
use Rattle.std.specs.Io.KnownBytes.{Consumes}
use Rattle.outside.proofs.std_files.read_most.Given as goal

abbrev pub invariant-loop-piece : goal.invariant-loop-piece
invariant-loop-piece g l = record {
  most : vec_len l.all ≤ l.limit + 1;
  consumed : Consumes (g.R.Read.remaining l.initial.from) (g.R.Read.remaining l.from) l.all.items;
}

abbrev pub decreases-loop-piece : goal.decreases-loop-piece
decreases-loop-piece g l = l.limit + 1 - vec_len l.all
