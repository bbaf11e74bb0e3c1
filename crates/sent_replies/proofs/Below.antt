-- Below each key of the client's own, what is sent ends with the alias just where the key's node asks for the name of the type.
use Rattle.std.proofs.Common.{◌≡◌, ℕ, List, [], ◌∷◌, map, filter, Bool, false, ◌||◌, bytes_eq, refl, sym, ap, ◌∙◌, subst}
use Rattle.std.specs.List.{list_any}
use Rattle.plan_model.specs.SelectedFields.{Setting, hands_at}
use Rattle.plan_model.specs.Collecting.{CollectedField, WrittenSelections, nesting}
use Rattle.plan_model.specs.Merging.{Position, fields_of_key, first_call, selections_below, asks, fields_at, fields_under, below_key}
use Rattle.stripped_responses.specs.Stripping.{AreRewritten, IsRewritten, HasNoAlias}
use Rattle.stripped_responses.proofs.RewrittenFields.{Each, is_own, e', rewritten_field, own_fields}
use Rattle.stripped_responses.proofs.RewrittenKeys.{own_of_key, map_of_key, map_first, fields_alike, own_fields_at}
use Rattle.stripped_responses.proofs.SameCalls.{same_hands}
use Rattle.sent_replies.specs.Asking.{MarkedSelections, is_marked, written_of, sent_of, IsSentAsking}
use Rattle.sent_replies.proofs.Selected.{FieldHas, marked_below, marked_can}

module _ (alias : List ℕ) where
  -- what is marked is rewritten
  marked_rewritten : (e : Setting) (marked : List MarkedSelections) → AreRewritten alias e.schema (map written_of marked) (map (sent_of alias e.schema) marked)
  marked_rewritten e [] = tt
  marked_rewritten e (m ∷ marked) = ((m.0, refl), marked_rewritten e marked)

  pub sent_is_rewritten : (e : Setting) (asked : Bool) (p q : Position) → IsSentAsking alias e asked p q → IsRewritten alias e.schema p q
  sent_is_rewritten e asked p q s = record {
    selections =
        subst (λ (ws : List WrittenSelections). AreRewritten alias e.schema ws q.selections) (sym s.own)
        (subst (λ (vs : List WrittenSelections). AreRewritten alias e.schema (map written_of s.marked) vs) (sym s.sent) (marked_rewritten e s.marked));
    handed = s.handed;
  }

module _ (alias : List ℕ) (e : Setting) where
  abbrev w : Setting
  w = e' alias e

  own_below : (fs : List CollectedField) → map (selections_below e) fs ≡ map written_of (map (marked_below e) fs)
  own_below [] = refl
  own_below (f ∷ fs) = ap (λ (ws : List WrittenSelections). selections_below e f ∷ ws) (own_below fs)

  sent_below : (fs : List CollectedField) → map (selections_below w) (map (rewritten_field alias e) fs) ≡ map (sent_of alias e.schema) (map (marked_below e) fs)
  sent_below [] = refl
  sent_below (f ∷ fs) = ap (λ (vs : List WrittenSelections). sent_of alias e.schema (marked_below e f) ∷ vs) (sent_below fs)

  asked_below : (fs : List CollectedField) → list_any is_marked (map (marked_below e) fs) ≡ list_any (asks e) fs
  asked_below [] = refl
  asked_below (f ∷ fs) = ap (λ (b : Bool). asks e f || b) (asked_below fs)

  module _ (T : ℕ) where
    under_key : (k : List ℕ) (p q : Position) → bytes_eq k alias ≡ false → HasNoAlias alias e p → IsRewritten alias e.schema p q → fields_under w T k q ≡ map (rewritten_field alias e) (fields_under e T k p)
    under_key k p q isnt none r =
        own_of_key alias k (fields_at w T q) isnt
        ∙ (ap (fields_of_key k)
        (ap (filter (is_own alias)) (fields_alike alias e T q) ∙ (own_fields alias e T (nesting e) p.selections q.selections none.fragments none.own r.selections ∙ ap (map (rewritten_field alias e)) (sym (own_fields_at alias e T p))))
        ∙ map_of_key alias e k (fields_at e T p))

    pub asks_below : (k : List ℕ) (p q : Position) → bytes_eq k alias ≡ false → HasNoAlias alias e p → IsRewritten alias e.schema p q → Each (FieldHas e) (fields_under e T k p)
        → IsSentAsking alias e (list_any (asks e) (fields_under e T k p)) (below_key e T k p) (below_key w T k q)
    asks_below k p q isnt none r has =
        let mine : List CollectedField = fields_under e T k p in
        let under : fields_under w T k q ≡ map (rewritten_field alias e) mine = under_key k p q isnt none r in
        record {
          marked = map (marked_below e) mine;
          own = own_below mine;
          sent = ap (map (selections_below w)) under ∙ sent_below mine;
          asks = asked_below mine;
          can_be_ended = marked_can e mine has;
          handed = ap (hands_at w T) (ap first_call under ∙ map_first alias e mine) ∙ same_hands alias e T (first_call mine);
        }
