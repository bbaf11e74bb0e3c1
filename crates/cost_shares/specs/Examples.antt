-- Small plans, and what their nodes add.
use Rattle.std.specs.Prelude.{ℕ, codes, false, Some}
use Rattle.response_model.specs.Plan.{listed, Plan, no_node, node}
use Rattle.response_model.specs.Examples.{one, plain, query, user, friends, id_then, name_then}
use Rattle.cost_shares.specs.Shares.{NodeShare}

-- { users { friends { id name } } }, where `users` is a list of two, and each has three friends
abbrev pub friends_of_two : Plan
friends_of_two = query (node (plain (codes "users") (listed false false) (Some 2) one) (user (friends (id_then (name_then no_node)))) no_node)

abbrev pub share : ℕ → ℕ → ℕ → NodeShare
share times values adds = record { times = times; values = values; adds = adds }

abbrev pub no_share : NodeShare
no_share = share 0 0 0
