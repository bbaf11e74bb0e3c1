-- A node, opened.
use Rattle.std.proofs.Common.{◌≡◌, ℕ, zero, suc, ◌+◌, ◌<◌, ◌≤◌, List, [], ◌∷◌, length, drop, get_or, max, ap, arith}
use Rattle.meta_schema.specs.PassedOn.{AskedNode, fold_out-AskedNode, out-AskedNode, AskedOne, asked_step, asked_node, asked_nodes, asked_depth}
use Rattle.local_introspection.proofs.CountSteps.{front_node}

pub open_asked : (n : AskedNode) → asked_node n ≡ record { key = (out-AskedNode n).key; name = (out-AskedNode n).name; argument = (out-AskedNode n).argument; below = asked_nodes (out-AskedNode n).below.items }
unfolding asked_node
open_asked n = fold_out-AskedNode AskedOne asked_step n

depth_drop : (ns : List AskedNode) (i : ℕ) → asked_depth (asked_nodes (drop i ns)) ≤ asked_depth (asked_nodes ns)
depth_drop [] zero = omega arith
depth_drop [] (suc i) = omega arith
depth_drop (n ∷ ns) zero = omega arith
depth_drop (n ∷ ns) (suc i) = omega (arith, depth_drop ns i)

pub less_deep : (nodes : List AskedNode) (i : ℕ) (n : AskedNode) → i < length nodes → n ≡ get_or nodes i n → asked_depth (asked_node n).below < asked_depth (asked_nodes nodes)
less_deep nodes i n less is =
    let opened : asked_depth (asked_nodes (drop i nodes)) ≡ max (suc (asked_depth (asked_node n).below)) (asked_depth (asked_nodes (drop (i + 1) nodes))) = ap asked_depth (front_node nodes i n less is) in
    omega (arith, opened, depth_drop nodes i)
