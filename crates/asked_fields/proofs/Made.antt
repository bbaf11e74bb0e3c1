-- Nodes that are made.
use Rattle.std.proofs.Common.{◌≡◌, ℕ, List, Vec, Global}
use Rattle.asked_fields.specs.declared.asked.Argument.{Argument}
use Rattle.asked_fields.specs.declared.asked.AskedNode.{AskedNode}
use Rattle.asked_fields.specs.declared.asked.AskedNode.TheFolds.{fold-roll-AskedNode}
use Rattle.asked_fields.specs.declared.asked.AskedNode.TheViews.{roll-AskedNode}
use Rattle.asked_fields.specs.AskedNodes.{AskedOne, asked_step, asked_node, asked_nodes}

pub node_made : (key name : List ℕ) (argument : Argument) (below : Vec AskedNode Global)
    → asked_node (roll-AskedNode record { key = key; name = name; argument = argument; below = below }) ≡ record { key = key; name = name; argument = argument; below = asked_nodes below.items }
unfolding asked_node
node_made key name argument below = fold-roll-AskedNode AskedOne asked_step record { key = key; name = name; argument = argument; below = below }
