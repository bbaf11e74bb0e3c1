-- The alias is a key of what is sent where one of the lists of selections ends with it, and nowhere else.
use Rattle.std.proofs.Common.{◌≡◌, ⊎_elim, ℕ, zero, suc, List, [], ◌∷◌, map, Bool, true, false, true≢false, ◌||◌, bytes_eq, Option, refl, sym, ap, ◌∙◌, subst}
use Rattle.std.specs.Prelude.{find, if◌then◌else◌}
use Rattle.std.specs.List.{list_any}
use Rattle.std.proofs.lemmas.Bool.{cases_Bool, or_right, or_parts}
use Rattle.std.proofs.lemmas.List.Folds.{list_any-append}
use Rattle.std.proofs.lemmas.Slice.Eq.{bytes_eq-Decides}
use Rattle.document_reader.specs.Documents.{SelectionTree, field_selection, fragment_spread, inline_fragment, SelectionTrees, no_selection, selection_then}
use Rattle.document_rules.specs.Parts.{FragmentData, fragment_name}
use Rattle.document_rules.specs.Sites.{has_selections, composite_named, below_inline}
use Rattle.plan_model.specs.SelectedFields.{Setting}
use Rattle.plan_model.specs.Collecting.{is_included, applies_if_named, applies_by_name, fragment_named, nesting, CollectedField, WrittenSelections, fields_of, fields_in, fields_written, fields_entered, fields_spread, collected_to, collected}
use Rattle.plan_model.specs.Merging.{Position, keys_from, has_key, fields_at, keys_at}
use Rattle.typename_rewrite.specs.Rewriting.{typename_under, and_then, ended, rewritten_selection, rewritten_selections, rewritten_fragment}
use Rattle.stripped_responses.specs.Stripping.{IsFreeOne, IsFree, AreFree, AreFragmentsFree, HasNoAlias}
use Rattle.stripped_responses.proofs.RewrittenFields.{Each, each_append, each_where, e'}
use Rattle.stripped_responses.proofs.RewrittenKeys.{symmetric}
use Rattle.sent_replies.specs.Asking.{MarkedSelections, is_marked, written_of, CanBeEnded, sent_of, IsSentAsking}

module _ (alias : List ℕ) where
  -- a field and a key that aren't the alias
  abbrev pub HasOwnKey : CollectedField → Type 0
  HasOwnKey f = bytes_eq f.key alias ≡ false

  abbrev pub IsOwnKey : List ℕ → Type 0
  IsOwnKey k = bytes_eq k alias ≡ false

  -- ---- keys

  own_keys_only : (seen : List (List ℕ)) (fs : List CollectedField) → Each HasOwnKey fs → Each IsOwnKey (keys_from seen fs)
  own_keys_only seen [] own = tt
  own_keys_only seen (f ∷ fs) own = ⊎_elim
      (λ (met : list_any (bytes_eq f.key) seen ≡ true). rw (met) (own_keys_only seen fs own.1))
      (λ (new : list_any (bytes_eq f.key) seen ≡ false). rw (new) (own.0, own_keys_only (f.key ∷ seen) fs own.1))
      (cases_Bool (list_any (bytes_eq f.key) seen))

  same_met : (k key : List ℕ) (seen : List (List ℕ)) → bytes_eq key k ≡ true → list_any (bytes_eq k) seen ≡ list_any (bytes_eq key) seen
  same_met k key seen same = ap (λ (z : List ℕ). list_any (bytes_eq z) seen) (sym ((bytes_eq-Decides key k).0 same))

  key_found : (k : List ℕ) (seen : List (List ℕ)) (fs : List CollectedField) → list_any (bytes_eq k) seen ≡ false → list_any (has_key k) fs ≡ true → list_any (bytes_eq k) (keys_from seen fs) ≡ true
  key_found k seen [] unseen has = absurd (true≢false (sym has))
  key_found k seen (f ∷ fs) unseen has = ⊎_elim
      (λ (met : list_any (bytes_eq f.key) seen ≡ true). rw (met) (⊎_elim
      (λ (same : bytes_eq f.key k ≡ true). absurd (true≢false (sym (same_met k f.key seen same ∙ met) ∙ unseen)))
      (λ (other : bytes_eq f.key k ≡ false). key_found k seen fs unseen (sym (ap (λ (b : Bool). b || list_any (has_key k) fs) other) ∙ has))
      (cases_Bool (bytes_eq f.key k))))
      (λ (new : list_any (bytes_eq f.key) seen ≡ false). rw (new) (⊎_elim
      (λ (same : bytes_eq f.key k ≡ true). rw ((bytes_eq-Decides k f.key).1 (sym ((bytes_eq-Decides f.key k).0 same))) refl)
      (λ (other : bytes_eq f.key k ≡ false). or_right (bytes_eq k f.key) (list_any (bytes_eq k) (keys_from (f.key ∷ seen) fs))
      (key_found k (f.key ∷ seen) fs (ap (λ (b : Bool). b || list_any (bytes_eq k) seen) (symmetric alias f.key k other) ∙ unseen) (sym (ap (λ (b : Bool). b || list_any (has_key k) fs) other) ∙ has)))
      (cases_Bool (bytes_eq f.key k))))
      (cases_Bool (list_any (bytes_eq f.key) seen))

module _ (alias : List ℕ) (e : Setting) where
  abbrev w : Setting
  w = e' alias e

  module _ (T : ℕ) where
    -- ---- without an end no key is the alias

    abbrev GivesOwn : (List ℕ → List CollectedField) → Type 0
    GivesOwn g = (name : List ℕ) → Each (HasOwnKey alias) (g name)

    mutual
      unfolding rewritten_selection rewritten_selections

      own_one : (g : List ℕ → List CollectedField) (parent : Option ℕ) (x : SelectionTree) → GivesOwn g → IsFreeOne alias x → Each (HasOwnKey alias) (fields_of w T g parent (rewritten_selection e.schema alias parent x))
      own_one g parent (field_selection names arguments directives below) gives free = (free.0, tt)
      own_one g parent (fragment_spread name directives) gives free = gives name.0
      own_one g parent (inline_fragment on directives below) gives free =
          each_where (HasOwnKey alias) (applies_if_named e.schema T on) (fields_in w T g (below_inline e.schema parent on) (rewritten_selections e.schema alias (below_inline e.schema parent on) below)) (own_all g (below_inline e.schema parent on) below gives free)

      own_all : (g : List ℕ → List CollectedField) (parent : Option ℕ) (xs : SelectionTrees) → GivesOwn g → IsFree alias xs → Each (HasOwnKey alias) (fields_in w T g parent (rewritten_selections e.schema alias parent xs))
      own_all g parent no_selection gives free = tt
      own_all g parent (selection_then x others) gives free =
          let y : SelectionTree = rewritten_selection e.schema alias parent x in
          each_append (HasOwnKey alias) (if is_included e.values y then fields_of w T g parent y else []) (fields_in w T g parent (rewritten_selections e.schema alias parent others))
          (each_where (HasOwnKey alias) (is_included e.values y) (fields_of w T g parent y) (own_one g parent x gives free.0)) (own_all g parent others gives free.1)

    own_entered : (g : List ℕ → List CollectedField) (fs : List FragmentData) (name : List ℕ) → GivesOwn g → AreFragmentsFree alias fs → Each (HasOwnKey alias) (fields_entered w T g (find (λ x. bytes_eq (fragment_name x) name) (map (rewritten_fragment e.schema alias) fs)))
    own_entered g [] name gives free = tt
    own_entered g (b ∷ fs) name gives free = ⊎_elim
        (λ (is : bytes_eq (fragment_name b) name ≡ true). rw (is) (each_where (HasOwnKey alias) (applies_by_name e.schema T b.on.0) (fields_in w T g (composite_named e.schema b.on.0) (rewritten_selections e.schema alias (composite_named e.schema b.on.0) b.below)) (own_all g (composite_named e.schema b.on.0) b.below gives free.0)))
        (λ (is : bytes_eq (fragment_name b) name ≡ false). rw (is) (own_entered g fs name gives free.1))
        (cases_Bool (bytes_eq (fragment_name b) name))

    own_spread : (depth : ℕ) (name : List ℕ) → AreFragmentsFree alias e.fragments → Each (HasOwnKey alias) (fields_spread w T depth name)
    unfolding fields_spread fragment_named
    own_spread zero name free = tt
    own_spread (suc depth) name free = own_entered (fields_spread w T depth) e.fragments name (λ other. own_spread depth other free) free

    -- ---- an end has the alias as its key

    includes_added : is_included e.values (typename_under alias) ≡ true
    unfolding is_included
    includes_added = refl

    end_has : (g : List ℕ → List CollectedField) (parent : Option ℕ) (xs : SelectionTrees) → list_any (has_key alias) (fields_in w T g parent (and_then xs (typename_under alias))) ≡ true
    unfolding and_then
    end_has g parent no_selection = rw (includes_added) (rw ((bytes_eq-Decides alias alias).1 refl) refl)
    end_has g parent (selection_then x others) =
        list_any-append (has_key alias) (if is_included e.values x then fields_of w T g parent x else []) (fields_in w T g parent (and_then others (typename_under alias)))
        ∙ or_right (list_any (has_key alias) (if is_included e.values x then fields_of w T g parent x else [])) (list_any (has_key alias) (fields_in w T g parent (and_then others (typename_under alias)))) (end_has g parent others)

    marked_has : (g : List ℕ → List CollectedField) (parent : Option ℕ) (mark : Bool) (xs : SelectionTrees) → mark ≡ true → has_selections xs ≡ true → list_any (has_key alias) (fields_in w T g parent (ended alias mark (rewritten_selections e.schema alias parent xs))) ≡ true
    unfolding rewritten_selection rewritten_selections
    marked_has g parent mark no_selection is has = absurd (true≢false (sym has))
    marked_has g parent true (selection_then x others) is has = end_has g parent (selection_then (rewritten_selection e.schema alias parent x) (rewritten_selections e.schema alias parent others))
    marked_has g parent false (selection_then x others) is has = absurd (true≢false (sym is))

    unmarked : (mark : Bool) (xs : SelectionTrees) → mark ≡ false → xs ≡ ended alias mark xs
    unmarked mark no_selection is = refl
    unmarked true (selection_then x others) is = absurd (true≢false is)
    unmarked false (selection_then x others) is = refl

    -- ---- all selections of a position

    module _ (depth : ℕ) where
      abbrev sent_fields : List MarkedSelections → List CollectedField
      sent_fields marked = collected_to w T depth (map (sent_of alias e.schema) marked)

      abbrev fields_sent : MarkedSelections → List CollectedField
      fields_sent m = fields_written w T (fields_spread w T depth) (sent_of alias e.schema m)

      asked_has : (marked : List MarkedSelections) → CanBeEnded marked → list_any is_marked marked ≡ true → list_any (has_key alias) (sent_fields marked) ≡ true
      asked_has [] can asks = absurd (true≢false (sym asks))
      asked_has (m ∷ marked) can asks =
          list_any-append (has_key alias) (fields_sent m) (sent_fields marked) ∙ ⊎_elim
          (λ (is : m.0 ≡ true). ap (λ (b : Bool). b || list_any (has_key alias) (sent_fields marked)) (marked_has (fields_spread w T depth) m.1.0 m.0 m.1.1 is (can.0 is)))
          (λ (isnt : m.0 ≡ false). or_right (list_any (has_key alias) (fields_sent m)) (list_any (has_key alias) (sent_fields marked)) (asked_has marked can.1 (sym (ap (λ (b : Bool). b || list_any is_marked marked) isnt) ∙ asks)))
          (cases_Bool m.0)

      unasked_own : (marked : List MarkedSelections) → AreFragmentsFree alias e.fragments → AreFree alias (map written_of marked) → list_any is_marked marked ≡ false → Each (HasOwnKey alias) (sent_fields marked)
      unasked_own [] fragments free asks = tt
      unasked_own (m ∷ marked) fragments free asks =
          let none : (m.0 ≡ false) × (list_any is_marked marked ≡ false) = or_parts m.0 (list_any is_marked marked) asks in
          each_append (HasOwnKey alias) (fields_sent m) (sent_fields marked)
          (subst (λ (xs : SelectionTrees). Each (HasOwnKey alias) (fields_in w T (fields_spread w T depth) m.1.0 xs)) (unmarked m.0 (rewritten_selections e.schema alias m.1.0 m.1.1) none.0)
          (own_all (fields_spread w T depth) m.1.0 m.1.1 (λ name. own_spread depth name fragments) free.0))
          (unasked_own marked fragments free.1 none.1)

    -- what is collected at what is sent
    sent_at : (asked : Bool) (p q : Position) (s : IsSentAsking alias e asked p q) → sent_fields (nesting w) s.marked ≡ fields_at w T q
    unfolding collected
    sent_at asked p q s = ap (λ (vs : List WrittenSelections). collected_to w T (nesting w) vs) (sym s.sent)

    pub alias_is_key : (p q : Position) → IsSentAsking alias e true p q → list_any (bytes_eq alias) (keys_at w T q) ≡ true
    alias_is_key p q s =
        key_found alias alias [] (fields_at w T q) refl
        (subst (λ (fs : List CollectedField). list_any (has_key alias) fs ≡ true) (sent_at true p q s) (asked_has (nesting w) s.marked s.can_be_ended s.asks))

    pub alias_is_none : (p q : Position) → HasNoAlias alias e p → IsSentAsking alias e false p q → Each (IsOwnKey alias) (keys_at w T q)
    alias_is_none p q none s =
        own_keys_only alias [] (fields_at w T q)
        (subst (Each (HasOwnKey alias)) (sent_at false p q s) (unasked_own (nesting w) s.marked none.fragments (subst (AreFree alias) s.own none.own) s.asks))
