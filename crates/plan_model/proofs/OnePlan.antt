-- There is one plan of a place and a position.
use Rattle.std.proofs.Common.{◌≡◌, ℕ, List, [], ◌∷◌, refl, sym, ap, ◌∙◌}
use Rattle.serde_json.specs.Data.{Data}
use Rattle.response_model.specs.Plan.{Selected, LeafType, Plan, leaf_plan, position, ObjectTypes, no_type, object_type, Nodes, no_node, node}
use Rattle.plan_model.specs.SelectedFields.{Setting, Place, leaf_place, object_place, place_at}
use Rattle.plan_model.specs.Merging.{Position, keys_at, call_under, below_key}
use Rattle.plan_model.specs.Plans.{IsPlan, ArePossible, AreNodes}

same_leaf : (t u : LeafType) (w v : ℕ) (f g : Data) → t ≡ u → w ≡ v → f ≡ g → leaf_plan t w f ≡ leaf_plan u v g
same_leaf t u w v f g a b c = cc

same_type : (T U w v : ℕ) (ns ms : Nodes) (os qs : ObjectTypes) → T ≡ U → w ≡ v → ns ≡ ms → os ≡ qs → object_type T w ns os ≡ object_type U v ms qs
same_type T U w v ns ms os qs a b c d = cc

same_node : (s r : Selected) (a b : Plan) (os qs : Nodes) → s ≡ r → a ≡ b → os ≡ qs → node s a os ≡ node r b qs
same_node s r a b os qs x y z = cc

module _ (e : Setting) where
  mutual
    pub same_plan : (place : Place) (p : Position) (a b : Plan) → IsPlan e place p a → IsPlan e place p b → a ≡ b
    same_plan (leaf_place type weight fill) p (leaf_plan t w f) (leaf_plan u v g) x y = same_leaf t u w v f g (x.0 ∙ sym y.0) (x.1 ∙ sym y.1) (x.2 ∙ sym y.2)
    same_plan (leaf_place type weight fill) p (leaf_plan t w f) (position possible) x y = absurd y
    same_plan (leaf_place type weight fill) p (position possible) b x y = absurd x
    same_plan (object_place Ts) p (leaf_plan t w f) b x y = absurd x
    same_plan (object_place Ts) p (position possible) (leaf_plan u v g) x y = absurd y
    same_plan (object_place Ts) p (position possible) (position others) x y = ap position (same_types Ts p possible others x y)

    same_types : (Ts : List ℕ) (p : Position) (a b : ObjectTypes) → ArePossible e Ts p a → ArePossible e Ts p b → a ≡ b
    same_types [] p no_type no_type x y = refl
    same_types [] p no_type (object_type U v ms qs) x y = absurd y
    same_types [] p (object_type T w ns os) b x y = absurd x
    same_types (T ∷ Ts) p no_type b x y = absurd x
    same_types (T ∷ Ts) p (object_type U w ns os) no_type x y = absurd y
    same_types (T ∷ Ts) p (object_type U w ns os) (object_type V v ms qs) x y =
        same_type U V w v ns ms os qs (x.0 ∙ sym y.0) (x.1 ∙ sym y.1) (same_nodes T (keys_at e T p) p ns ms x.2 y.2) (same_types Ts p os qs x.3 y.3)

    same_nodes : (T : ℕ) (ks : List (List ℕ)) (p : Position) (a b : Nodes) → AreNodes e T ks p a → AreNodes e T ks p b → a ≡ b
    same_nodes T [] p no_node no_node x y = refl
    same_nodes T [] p no_node (node r b qs) x y = absurd y
    same_nodes T [] p (node s a os) b x y = absurd x
    same_nodes T (k ∷ ks) p no_node b x y = absurd x
    same_nodes T (k ∷ ks) p (node s a os) no_node x y = absurd y
    same_nodes T (k ∷ ks) p (node s a os) (node r b qs) x y =
        same_node s r a b os qs (x.0 ∙ sym y.0) (same_plan (place_at e T (call_under e T k p)) (below_key e T k p) a b x.1 y.1) (same_nodes T ks p os qs x.2 y.2)
