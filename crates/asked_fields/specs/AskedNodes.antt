-- What an operation asks, node by node, as the program holds it.
use Rattle.std.specs.Prelude.{ℕ, suc, max, List, [], ◌∷◌, map}
use Rattle.asked_fields.specs.declared.asked.Argument.{Argument}
use Rattle.asked_fields.specs.declared.asked.AskedNode.{AskedNode}
use Rattle.asked_fields.specs.declared.asked.AskedNode.TheOpen.{AskedNode-F}
use Rattle.asked_fields.specs.declared.asked.AskedNode.TheFolds.{fold-AskedNode}

pub data AskedNodes : Type 0 where
  nothing_asked : AskedNodes
  asked_then : (key : List ℕ) → (name : List ℕ) → (argument : Argument) → (below : AskedNodes) → (others : AskedNodes) → AskedNodes

-- one node
pub record AskedOne : Type 0 where
  pub key : List ℕ
  pub name : List ℕ
  pub argument : Argument
  pub below : AskedNodes

abbrev pub asked_from : List AskedOne → AskedNodes
asked_from [] = nothing_asked
asked_from (n ∷ ns) = asked_then n.key n.name n.argument n.below (asked_from ns)

abbrev pub asked_step : AskedNode-F AskedOne → AskedOne
asked_step n = record { key = n.key; name = n.name; argument = n.argument; below = asked_from n.below.items }

unfoldable pub asked_node : AskedNode → AskedOne
asked_node = fold-AskedNode AskedOne asked_step

abbrev pub asked_nodes : List AskedNode → AskedNodes
asked_nodes ns = asked_from (map asked_node ns)

-- how deep what is asked nests
abbrev pub asked_depth : AskedNodes → ℕ
asked_depth nothing_asked = 0
asked_depth (asked_then key name argument below others) = max (suc (asked_depth below)) (asked_depth others)
