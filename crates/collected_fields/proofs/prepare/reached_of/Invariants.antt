use Rattle.std.proofs.Common.{◌≡◌, ◌++◌, map, drop}
use Rattle.collected_fields.specs.Views.{fragment_seen}
use Rattle.collected_fields.specs.Prepared.{reached_fragment}
use Rattle.collected_fields.proofs.prepare.reached_of.Given as goal

abbrev pub invariant-loop-fragment : goal.invariant-loop-fragment
invariant-loop-fragment l = map reached_fragment l.reached.items ++ map fragment_seen (drop l.fragment-index l.fragments) ≡ map fragment_seen l.fragments
