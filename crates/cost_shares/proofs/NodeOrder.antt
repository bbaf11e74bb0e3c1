-- The order of shares is that of rows.
use Rattle.std.proofs.Common.{◌≡◌, ℕ, suc, List, ◌∷◌, ◌++◌, map, Bool, true, false, refl, sym, ap, ap₂, ◌∙◌}
use Rattle.std.specs.List.{flat_map}
use Rattle.std.proofs.lemmas.List.{map-append}
use Rattle.response_model.specs.Plan.{Selected, Plan, leaf_plan, position, ObjectTypes, no_type, object_type, Nodes, no_node, node}
use Rattle.response_model.specs.Response.{Tree, Entries}
use Rattle.plan_table.specs.Rows.{below_in, rows_below, rows_of_types, rows_of_nodes}
use Rattle.cost_shares.specs.Shares.{single_values, entries_in, first_value, other_entries, each_node, each_of_types, each_of_nodes}
use Rattle.cost_shares.specs.RowOrder.{Told, row_told}

abbrev tell : Selected → Plan → List Tree → Told
tell s below ts = (s, below_in below)

mutual
  unfolding rows_below rows_of_types rows_of_nodes

  pub below_order : (d : ℕ) (plan : Plan) (vs : List Tree) → each_node tell plan vs ≡ map row_told (rows_below d plan)
  below_order d (leaf_plan type w fill) vs = refl
  below_order d (position possible) vs = types_order d possible vs

  types_order : (d : ℕ) (possible : ObjectTypes) (vs : List Tree) → each_of_types tell possible vs ≡ map row_told (rows_of_types d possible)
  types_order d no_type vs = refl
  types_order d (object_type T w nodes others) vs =
      ap₂ (λ (xs ys : List Told). xs ++ ys) (nodes_order d T w true nodes (flat_map (entries_in T) vs)) (types_order d others vs)
      ∙ sym (map-append row_told (rows_of_nodes d T w true nodes) (rows_of_types d others))

  nodes_order : (d T w : ℕ) (first : Bool) (nodes : Nodes) (ess : List Entries) → each_of_nodes tell nodes ess ≡ map row_told (rows_of_nodes d T w first nodes)
  nodes_order d T w first no_node ess = refl
  nodes_order d T w first (node s below others) ess =
      ap (λ (xs : List Told). (s, below_in below) ∷ xs)
      (ap₂ (λ (xs ys : List Told). xs ++ ys) (below_order (suc d) below (flat_map single_values (flat_map first_value ess))) (nodes_order d T w false others (flat_map other_entries ess))
      ∙ sym (map-append row_told (rows_below (suc d) below) (rows_of_nodes d T w false others)))
