use Rattle.std.proofs.Common.{◌≡◌, drop}
use Rattle.collected_fields.specs.Lists.{sets_in_joins}
use Rattle.collected_fields.specs.Walks.{walk_data, numbers_in}
use Rattle.collected_fields.proofs.walk.walk_numbers.Given as goal

abbrev pub invariant-loop-number : goal.invariant-loop-number
invariant-loop-number l = numbers_in l.tables l.known l.reaches l.of.number l.depth l.lists (sets_in_joins l.joins) (drop l.number-index l.numbers) (walk_data l.walk) ≡ numbers_in l.tables l.known l.reaches l.of.number l.depth l.lists (sets_in_joins l.joins) l.numbers (walk_data l.fn.walk)
