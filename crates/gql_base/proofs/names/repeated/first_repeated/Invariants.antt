use Rattle.std.proofs.Common.{drop, map}
use Rattle.gql_base.specs.names.Names.{first_repeated}
use Rattle.gql_base.specs.names.Indexes.{at_name}
use Rattle.gql_base.proofs.NameLaws.RepeatedLaws.{GoesOn}
use Rattle.gql_base.proofs.names.repeated.first_repeated.Given as goal

-- The names so far are those that were seen, and what is left answers as the whole.
abbrev pub invariant-loop-at : goal.invariant-loop-at
invariant-loop-at g l = GoesOn (at_name l.seen) l.at (map g.T.Named.name_of (drop l.at l.items)) (first_repeated (map g.T.Named.name_of l.items))
