-- Fields that are like others make the same node.
use Rattle.std.proofs.Common.{◌≡◌, inl, ℕ, List, [], ◌∷◌, refl, sym, ◌∙◌}
use Rattle.plan_model.specs.SelectedFields.{Setting, HandedSize, place_at, hands_at}
use Rattle.plan_model.specs.Collecting.{CollectedField}
use Rattle.plan_model.specs.Merging.{first_call, selected_by}
use Rattle.plan_model.specs.Visits.{fault_of}
use Rattle.plan_model.specs.Likeness.{Thins, LooksLike, LooksSame, AreLike}
use Rattle.plan_model.proofs.MarkedNodes.{same_first, same_selected_by, same_fault_by, same_place, same_hands}

itself : (e : Setting) (f : CollectedField) → LooksLike e.schema f f
itself e f = record { key = refl; name = refl; given = λ values. refl; asked = refl }

pub like_same : (e : Setting) (f g : CollectedField) → LooksLike e.schema f g → LooksSame e f g
like_same e f g like = record { key = like.key; name = like.name; given = like.given e.values; asked = like.asked }

-- nothing left out
all_stay : (e : Setting) (seen fields : List CollectedField) → Thins (LooksLike e.schema) seen fields fields
all_stay e seen [] = tt
all_stay e seen (f ∷ fields) = inl (itself e f, all_stay e (f ∷ seen) fields)

abbrev alone : CollectedField → CollectedField
alone f = f

module _ (e : Setting) (T : ℕ) (fields others : List CollectedField) (like : AreLike e.schema fields others) where
  abbrev R : CollectedField → CollectedField → Type 0
  R = LooksLike e.schema

  pub like_fault : (handed : HandedSize) → fault_of e T handed fields ≡ fault_of e T handed others
  like_fault handed = same_fault_by e T alone R (like_same e) fields others like handed ∙ sym (same_fault_by e T alone R (like_same e) others others (all_stay e [] others) handed)

  pub like_selected : (key : List ℕ) (handed : HandedSize) → selected_by e T key handed fields ≡ selected_by e T key handed others
  like_selected key handed = same_selected_by e T alone R (like_same e) fields others like key handed ∙ sym (same_selected_by e T alone R (like_same e) others others (all_stay e [] others) key handed)

  pub like_place : place_at e T (first_call fields) ≡ place_at e T (first_call others)
  like_place = same_place e T _ _ (same_first e T alone R (like_same e) fields others like) ∙ sym (same_place e T _ _ (same_first e T alone R (like_same e) others others (all_stay e [] others)))

  pub like_hands : hands_at e T (first_call fields) ≡ hands_at e T (first_call others)
  like_hands = same_hands e T _ _ (same_first e T alone R (like_same e) fields others like) ∙ sym (same_hands e T _ _ (same_first e T alone R (like_same e) others others (all_stay e [] others)))
