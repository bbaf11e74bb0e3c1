-- The keys of a position without the offsets of names, and what stands under each of them.
use Rattle.std.proofs.Common.{◌≡◌, ⊎_elim, ℕ, List, [], ◌∷◌, map, true, false, bytes_eq, Option, refl, ap, ap₂, ◌∙◌}
use Rattle.std.specs.Prelude.{if◌then◌else◌}
use Rattle.std.specs.List.{list_any}
use Rattle.std.proofs.lemmas.Bool.{cases_Bool}
use Rattle.plan_model.specs.SelectedFields.{Setting, FieldCall, HandedSize, form_at, place_at, size_at, hands_at, weight_at, cost_at}
use Rattle.plan_model.specs.Collecting.{CollectedField, WrittenSelections}
use Rattle.plan_model.specs.Merging.{Position, keys_from, keys_of, fields_of_key, first_call, selections_below, position_below, fields_at, keys_at, fields_under, call_under, below_key}
use Rattle.received_requests.specs.Offsets.{written_placeless, position_placeless}
use Rattle.received_requests.proofs.OffsetsFields.{e', call_placeless, field_placeless, same_fields}
use Rattle.received_requests.proofs.OffsetsCalls.{same_written, same_form, same_place, same_size, same_hands, same_weight, same_cost}

keys_map : (seen : List (List ℕ)) (fs : List CollectedField) → keys_from seen (map field_placeless fs) ≡ keys_from seen fs
keys_map seen [] = refl
keys_map seen (f ∷ fs) = ap₂ (λ (met new : List (List ℕ)). if list_any (bytes_eq f.key) seen then met else f.key ∷ new) (keys_map seen fs) (keys_map (f.key ∷ seen) fs)

map_of_key : (k : List ℕ) (fs : List CollectedField) → fields_of_key k (map field_placeless fs) ≡ map field_placeless (fields_of_key k fs)
map_of_key k [] = refl
map_of_key k (f ∷ fs) = ⊎_elim
    (λ (here : bytes_eq f.key k ≡ true). rw (here) (ap (λ (zs : List CollectedField). field_placeless f ∷ zs) (map_of_key k fs)))
    (λ (other : bytes_eq f.key k ≡ false). rw (other) (map_of_key k fs))
    (cases_Bool (bytes_eq f.key k))

map_first : (fs : List CollectedField) → first_call (map field_placeless fs) ≡ call_placeless (first_call fs)
map_first [] = refl
map_first (f ∷ fs) = refl

module _ (e : Setting) where
  below_map : (fs : List CollectedField) → map (selections_below (e' e)) (map field_placeless fs) ≡ map written_placeless (map (selections_below e) fs)
  below_map [] = refl
  below_map (f ∷ fs) = ap₂ (λ (w : WrittenSelections) (ws : List WrittenSelections). w ∷ ws) (ap (λ (parent : Option ℕ). (parent, (field_placeless f).below)) (same_written e f.parent f.call)) (below_map fs)

  module _ (T : ℕ) where
    same_position : (fs : List CollectedField) → position_below (e' e) T (map field_placeless fs) ≡ position_placeless (position_below e T fs)
    same_position fs =
        ap₂ (λ (ws : List WrittenSelections) (handed : HandedSize). record { selections = ws; handed = handed }) (below_map fs)
        (ap (hands_at (e' e) T) (map_first fs) ∙ same_hands e T (first_call fs))

    fields_alike : (p : Position) → fields_at (e' e) T (position_placeless p) ≡ map field_placeless (fields_at e T p)
    fields_alike p = same_fields e T p.selections

    pub same_keys : (p : Position) → keys_at (e' e) T (position_placeless p) ≡ keys_at e T p
    same_keys p = ap keys_of (fields_alike p) ∙ keys_map [] (fields_at e T p)

    module _ (k : List ℕ) (p : Position) where
      under : fields_under (e' e) T k (position_placeless p) ≡ map field_placeless (fields_under e T k p)
      under = ap (fields_of_key k) (fields_alike p) ∙ map_of_key k (fields_at e T p)

      call_alike : call_under (e' e) T k (position_placeless p) ≡ call_placeless (call_under e T k p)
      call_alike = ap first_call under ∙ map_first (fields_under e T k p)

      pub below_alike : below_key (e' e) T k (position_placeless p) ≡ position_placeless (below_key e T k p)
      below_alike = ap (position_below (e' e) T) under ∙ same_position (fields_under e T k p)

      pub form_alike : form_at (e' e) T (call_under (e' e) T k (position_placeless p)) ≡ form_at e T (call_under e T k p)
      form_alike = ap (form_at (e' e) T) call_alike ∙ same_form e T (call_under e T k p)

      pub place_alike : place_at (e' e) T (call_under (e' e) T k (position_placeless p)) ≡ place_at e T (call_under e T k p)
      place_alike = ap (place_at (e' e) T) call_alike ∙ same_place e T (call_under e T k p)

      pub size_alike : size_at (e' e) T (call_under (e' e) T k (position_placeless p)) p.handed ≡ size_at e T (call_under e T k p) p.handed
      size_alike = ap (λ (c : FieldCall). size_at (e' e) T c p.handed) call_alike ∙ same_size e T (call_under e T k p) p.handed

      pub weight_alike : weight_at (e' e) T (call_under (e' e) T k (position_placeless p)) ≡ weight_at e T (call_under e T k p)
      weight_alike = ap (weight_at (e' e) T) call_alike ∙ same_weight e T (call_under e T k p)

      pub cost_alike : cost_at (e' e) T (call_under (e' e) T k (position_placeless p)) ≡ cost_at e T (call_under e T k p)
      cost_alike = ap (cost_at (e' e) T) call_alike ∙ same_cost e T (call_under e T k p)
