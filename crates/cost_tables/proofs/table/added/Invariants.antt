use Rattle.std.proofs.Common.{◌≡◌, ◌+◌, ◌≤◌, drop}
use Rattle.std.specs.List.{sum_by}
use Rattle.cost_num.specs.declared.TheConstants.{CAP}
use Rattle.cost_num.specs.Capped.{capped}
use Rattle.cost_tables.specs.Tables.{adds_of}
use Rattle.cost_tables.proofs.table.added.Given as goal

-- with what is left it is the whole
abbrev pub invariant-loop-share : goal.invariant-loop-share
invariant-loop-share l = (l.sum ≤ CAP + 1) × (capped (l.sum + sum_by adds_of (drop l.share-index l.shares)) ≡ capped (sum_by adds_of l.shares))
