use Rattle.std.proofs.Common.{◌≡◌, map, drop}
use Rattle.gql_base.specs.names.Names.{are_distinct}
use Rattle.gql_base.specs.names.Indexes.{at_name, FindsFrom}
use Rattle.gql_base.proofs.names.index.index_of.Given as goal

-- What is indexed so far are the things from here on.
abbrev pub invariant-loop-at : goal.invariant-loop-at
invariant-loop-at g l = record {
  finds : FindsFrom l.at (at_name l.firsts) g.T.Named.name_of (drop l.at l.items);
  tells : l.distinct ≡ are_distinct (map g.T.Named.name_of (drop l.at l.items));
}
