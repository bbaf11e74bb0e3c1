use Rattle.std.proofs.Common.{◌≡◌, take}
use Rattle.merged_selections.proofs.known.copied_looked.Given as goal

abbrev pub invariant-loop-one : goal.invariant-loop-one
invariant-loop-one l = l.copy.items ≡ take l.one-index l.looked
