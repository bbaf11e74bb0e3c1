-- Where repeats are left out the same is asked, and what is asked is planned.
use Rattle.std.proofs.Common.{◌≡◌, ℕ, zero, suc, List, [], ◌∷◌, refl, ap, ap₂, ◌∙◌}
use Rattle.response_model.specs.Plan.{Selected, Plan, position, Nodes, node, object_type, no_type}
use Rattle.plan_model.specs.SelectedFields.{Setting, FieldCall, Place, leaf_place, object_place, place_at, arguments_at, if_coerced}
use Rattle.plan_model.specs.Merging.{Position, keys_at, call_under, selected_under, below_key}
use Rattle.plan_model.specs.MergingWalk.{IsShortened}
use Rattle.plan_model.specs.Plans.{with_capped, type_weight}
use Rattle.plan_model.specs.Visits.{planned, nothing_planned, planned_nodes, planned_at}
use Rattle.asked_fields.specs.Asked.{Asked, field_then, AskedBelow, of_objects, fields_asked, asked_at, nothing_below, asked, nodes_in, plan_in, IsOfOneType, HasOneType}

-- what stays where repeats are left out
pub record KeepsNodes (e : Setting) : Type 0 where
  pub keys : (T : ℕ) (p q : Position) → IsShortened p q → keys_at e T p ≡ keys_at e T q
  pub call : (T : ℕ) (p q : Position) → IsShortened p q → (key : List ℕ) → call_under e T key p ≡ call_under e T key q
  pub selected : (T : ℕ) (p q : Position) → IsShortened p q → (key : List ℕ) → selected_under e T key p ≡ selected_under e T key q
  pub below : (T : ℕ) (p q : Position) → IsShortened p q → (key : List ℕ) → IsShortened (below_key e T key p) (below_key e T key q)

abbrev pub IsAlike : (Place → Position → AskedBelow) → Type 0
IsAlike deeper = (place : Place) (p q : Position) → IsShortened p q → deeper place p ≡ deeper place q

module _ (e : Setting) (kept : KeepsNodes e) where
  module _ (deeper : Place → Position → AskedBelow) (each : IsAlike deeper) (T : ℕ) (p q : Position) (less : IsShortened p q) where
    abbrev node_by : List ℕ → Selected → FieldCall → AskedBelow → Asked → Asked
    node_by k s c below others = field_then (with_capped s) (if_coerced (arguments_at e T c)) below others

    pub keys_alike : (ks : List (List ℕ)) → fields_asked e deeper T p ks ≡ fields_asked e deeper T q ks
    keys_alike [] = refl
    keys_alike (k ∷ ks) =
        ap (λ (s : Selected). node_by k s (call_under e T k p) (deeper (place_at e T (call_under e T k p)) (below_key e T k p)) (fields_asked e deeper T p ks)) (kept.selected T p q less k)
        ∙ ap (λ (c : FieldCall). node_by k (selected_under e T k q) c (deeper (place_at e T c) (below_key e T k p)) (fields_asked e deeper T p ks)) (kept.call T p q less k)
        ∙ ap₂ (λ (b : AskedBelow) (others : Asked). node_by k (selected_under e T k q) (call_under e T k q) b others)
        (each (place_at e T (call_under e T k q)) (below_key e T k p) (below_key e T k q) (kept.below T p q less k)) (keys_alike ks)

  at_alike : (deeper : Place → Position → AskedBelow) → IsAlike deeper → IsAlike (asked_at e deeper)
  at_alike deeper each (leaf_place type weight fill) p q less = refl
  at_alike deeper each (object_place []) p q less = refl
  at_alike deeper each (object_place (T ∷ Ts)) p q less =
      ap (λ fields. of_objects T (type_weight e T) fields) (keys_alike deeper each T p q less (keys_at e T p) ∙ ap (fields_asked e deeper T q) (kept.keys T p q less))

  pub asked_alike : (levels : ℕ) → IsAlike (asked e levels)
  unfolding asked
  asked_alike zero place p q less = at_alike nothing_below (λ a b c m. refl) place p q less
  asked_alike (suc levels) place p q less = at_alike (asked e levels) (asked_alike levels) place p q less

module _ (e : Setting) (single : HasOneType e) where
  abbrev IsPlannedBy : (Place → Position → AskedBelow) → (Place → Position → Plan) → Type 0
  IsPlannedBy deeper plan = (place : Place) (p : Position) → IsOfOneType place → plan_in (deeper place p) ≡ plan place p

  keys_planned : (deeper : Place → Position → AskedBelow) (plan : Place → Position → Plan) → IsPlannedBy deeper plan → (T : ℕ) (p : Position) (ks : List (List ℕ)) → nodes_in (fields_asked e deeper T p ks) ≡ planned_nodes e plan p T ks
  keys_planned deeper plan each T p [] = refl
  keys_planned deeper plan each T p (k ∷ ks) =
      ap₂ (λ (b : Plan) (others : Nodes). node (with_capped (selected_under e T k p)) b others) (each (place_at e T (call_under e T k p)) (below_key e T k p) (single T (call_under e T k p))) (keys_planned deeper plan each T p ks)

  at_planned : (deeper : Place → Position → AskedBelow) (plan : Place → Position → Plan) → IsPlannedBy deeper plan → IsPlannedBy (asked_at e deeper) (planned_at e plan)
  at_planned deeper plan each (leaf_place type weight fill) p one = refl
  at_planned deeper plan each (object_place []) p one = refl
  at_planned deeper plan each (object_place (T ∷ [])) p one = ap (λ (nodes : Nodes). position (object_type T (type_weight e T) nodes no_type)) (keys_planned deeper plan each T p (keys_at e T p))
  at_planned deeper plan each (object_place (T ∷ (U ∷ Us))) p one = absurd one

  pub asked_planned : (levels : ℕ) → IsPlannedBy (asked e levels) (planned e levels)
  unfolding asked planned
  asked_planned zero place p one = at_planned nothing_below nothing_planned (λ a b c. refl) place p one
  asked_planned (suc levels) place p one = at_planned (asked e levels) (planned e levels) (asked_planned levels) place p one
