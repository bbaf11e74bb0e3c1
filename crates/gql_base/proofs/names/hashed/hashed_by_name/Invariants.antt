use Rattle.std.proofs.Common.{drop}
use Rattle.std.specs.HashMap.{get_by_text}
use Rattle.gql_base.specs.names.Indexes.{FindsFrom}
use Rattle.gql_base.proofs.names.hashed.hashed_by_name.Given as goal

-- What is indexed so far are the things from here on.
abbrev pub invariant-loop-at : goal.invariant-loop-at
invariant-loop-at g l = FindsFrom l.at (get_by_text l.firsts) g.T.Named.name_of (drop l.at l.items.items)
