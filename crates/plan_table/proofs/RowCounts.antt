-- There are as many rows as nodes.
use Rattle.std.proofs.Common.{◌≡◌, ℕ, suc, ◌+◌, Bool, true, false, length, refl, ap, ap₂, ◌∙◌}
use Rattle.std.proofs.lemmas.List.{length-append}
use Rattle.response_model.specs.Plan.{Plan, leaf_plan, position, ObjectTypes, no_type, object_type, Nodes, no_node, node}
use Rattle.plan_model.specs.Plans.{node_count, nodes_of_types, nodes_of_one}
use Rattle.plan_table.specs.Rows.{rows_below, rows_of_types, rows_of_nodes}

mutual
  unfolding rows_below rows_of_types rows_of_nodes

  below_counted : (d : ℕ) (below : Plan) → length (rows_below d below) ≡ node_count below
  below_counted d (leaf_plan type weight fill) = refl
  below_counted d (position possible) = types_counted d possible

  pub types_counted : (d : ℕ) (possible : ObjectTypes) → length (rows_of_types d possible) ≡ nodes_of_types possible
  types_counted d no_type = refl
  types_counted d (object_type T weight nodes others) =
      length-append (rows_of_nodes d T weight true nodes) (rows_of_types d others) ∙ ap₂ (λ a b. a + b) (nodes_counted d T weight true nodes) (types_counted d others)

  nodes_counted : (d T weight : ℕ) (first : Bool) (nodes : Nodes) → length (rows_of_nodes d T weight first nodes) ≡ nodes_of_one nodes
  nodes_counted d T weight first no_node = refl
  nodes_counted d T weight first (node s below others) =
      ap suc (length-append (rows_below (suc d) below) (rows_of_nodes d T weight false others) ∙ ap₂ (λ a b. a + b) (below_counted (suc d) below) (nodes_counted d T weight false others))
