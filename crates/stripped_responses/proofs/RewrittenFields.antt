-- The fields that rewritten selections have: those of the client's own, and added ones between them.
use Rattle.std.proofs.Common.{◌≡◌, ◌⊎◌, inl, inr, ⊎_elim, ℕ, zero, suc, List, [], ◌∷◌, ◌++◌, map, filter, flat_map, Bool, true, false, not, true≢false, bytes_eq, Option, Some, None, refl, sym, ap, ◌∙◌, subst, ◌+◌}
use Rattle.std.specs.Prelude.{length, option_map, find, if◌then◌else◌}
use Rattle.std.proofs.lemmas.Bool.{cases_Bool}
use Rattle.std.proofs.lemmas.List.{map-append, append-nil, append_assoc, length-map}
use Rattle.std.proofs.lemmas.List.Elements.{filter-append}
use Rattle.std.proofs.lemmas.Slice.Eq.{bytes_eq-Decides}
use Rattle.document_reader.specs.Documents.{SelectionTree, field_selection, fragment_spread, inline_fragment, SelectionTrees, no_selection, selection_then}
use Rattle.document_rules.specs.Parts.{FragmentData, fragment_name}
use Rattle.document_rules.specs.Sites.{typename, composite_named, below_inline}
use Rattle.input_values.specs.coercion.Literals.{Environment}
use Rattle.plan_model.specs.SelectedFields.{Setting, FieldCall, written_below, is_asked}
use Rattle.plan_model.specs.Collecting.{is_included, directives_of, applies_if_named, applies_by_name, fragment_named, nesting, CollectedField, WrittenSelections, written_in, fields_of, fields_in, fields_written, fields_entered, fields_spread, collected_to, collected}
use Rattle.typename_rewrite.specs.Rewriting.{typename_under, and_then, ended, rewritten_selection, rewritten_selections, rewritten_fragment}
use Rattle.stripped_responses.specs.Stripping.{IsFreeOne, IsFree, AreFree, AreFragmentsFree, rewritten_setting, AreRewritten}

-- what holds of each of a list
abbrev pub Each : {X : Type 0} → (X → Type 0) → List X → Type 0
Each P [] = Unit {0}
Each P (x ∷ xs) = P x × Each P xs

pub each_append : {X : Type 0} (P : X → Type 0) (xs ys : List X) → Each P xs → Each P ys → Each P (xs ++ ys)
each_append P [] ys h k = k
each_append P (x ∷ xs) ys h k = (h.0, each_append P xs ys h.1 k)

pub each_where : {X : Type 0} (P : X → Type 0) (b : Bool) (xs : List X) → Each P xs → Each P (if b then xs else [])
each_where P true xs h = h
each_where P false xs h = tt

pub map_where : {X Y : Type 0} (f : X → Y) (b : Bool) (xs : List X) → (if b then map f xs else []) ≡ map f (if b then xs else [])
map_where f true xs = refl
map_where f false xs = refl

-- the call of a field that was added
abbrev pub typename_call : FieldCall
typename_call = record { name = typename; arguments = [] }

module _ (alias : List ℕ) where
  -- Where a field has the alias as its key, it is one that was added.
  abbrev pub IsAddedUnderAlias : CollectedField → Type 0
  IsAddedUnderAlias f = bytes_eq f.key alias ≡ true → f.call ≡ typename_call

  -- whether a field is the client's own
  abbrev pub is_own : CollectedField → Bool
  is_own f = not (bytes_eq f.key alias)

  -- The client's own fields have other keys, and so have their selections.
  abbrev pub IsFreeField : CollectedField → Type 0
  IsFreeField f = (bytes_eq f.key alias ≡ false) × IsFree alias f.below

  abbrev pub added_field : Option ℕ → CollectedField
  added_field parent = record { parent = parent; key = alias; call = typename_call; below = no_selection }

  self : bytes_eq alias alias ≡ true
  self = (bytes_eq-Decides alias alias).1 refl

module _ (alias : List ℕ) (e : Setting) where
  abbrev pub e' : Setting
  e' = rewritten_setting alias e

  -- a field with its selections rewritten
  abbrev pub rewritten_field : CollectedField → CollectedField
  rewritten_field f = record {
    parent = f.parent;
    key = f.key;
    call = f.call;
    below = ended alias (is_asked e.schema f.parent f.call) (rewritten_selections e.schema alias (written_below e.schema f.parent f.call) f.below);
  }

  same_inclusion : (parent : Option ℕ) (x : SelectionTree) → is_included e.values (rewritten_selection e.schema alias parent x) ≡ is_included e.values x
  unfolding rewritten_selection rewritten_selections is_included
  same_inclusion parent (field_selection names arguments directives below) = refl
  same_inclusion parent (fragment_spread name directives) = refl
  same_inclusion parent (inline_fragment on directives below) = refl

  named_fragment : (fs : List FragmentData) (name : List ℕ) → find (λ f. bytes_eq (fragment_name f) name) (map (rewritten_fragment e.schema alias) fs) ≡ option_map (rewritten_fragment e.schema alias) (find (λ f. bytes_eq (fragment_name f) name) fs)
  named_fragment [] name = refl
  named_fragment (f ∷ fs) name = ⊎_elim
      (λ (is : bytes_eq (fragment_name f) name ≡ true). rw (is) refl)
      (λ (is : bytes_eq (fragment_name f) name ≡ false). rw (is) (named_fragment fs name))
      (cases_Bool (bytes_eq (fragment_name f) name))

  same_fragment : (name : List ℕ) → fragment_named e' name ≡ option_map (rewritten_fragment e.schema alias) (fragment_named e name)
  unfolding fragment_named
  same_fragment name = named_fragment e.fragments name

  module _ (T : ℕ) where
    -- what a fragment gives, and what its rewritten form gives
    abbrev AreSame : (List ℕ → List CollectedField) → (List ℕ → List CollectedField) → Type 0
    AreSame f g = (name : List ℕ) → g name ≡ map rewritten_field (f name)

    mutual
      unfolding rewritten_selection rewritten_selections

      same_one : (f g : List ℕ → List CollectedField) (parent : Option ℕ) (x : SelectionTree) → AreSame f g → fields_of e' T g parent (rewritten_selection e.schema alias parent x) ≡ map rewritten_field (fields_of e T f parent x)
      same_one f g parent (field_selection names arguments directives below) same = refl
      same_one f g parent (fragment_spread name directives) same = same name.0
      same_one f g parent (inline_fragment on directives below) same =
          ap (λ (zs : List CollectedField). if applies_if_named e.schema T on then zs else []) (same_all f g (below_inline e.schema parent on) below same) ∙ map_where rewritten_field (applies_if_named e.schema T on) (fields_in e T f (below_inline e.schema parent on) below)

      same_all : (f g : List ℕ → List CollectedField) (parent : Option ℕ) (xs : SelectionTrees) → AreSame f g → fields_in e' T g parent (rewritten_selections e.schema alias parent xs) ≡ map rewritten_field (fields_in e T f parent xs)
      same_all f g parent no_selection same = refl
      same_all f g parent (selection_then x others) same =
          ap (λ (b : Bool). (if b then fields_of e' T g parent (rewritten_selection e.schema alias parent x) else []) ++ fields_in e' T g parent (rewritten_selections e.schema alias parent others)) (same_inclusion parent x)
          ∙ (ap (λ (zs : List CollectedField). (if is_included e.values x then zs else []) ++ fields_in e' T g parent (rewritten_selections e.schema alias parent others)) (same_one f g parent x same)
          ∙ (ap (λ (zs : List CollectedField). (if is_included e.values x then map rewritten_field (fields_of e T f parent x) else []) ++ zs) (same_all f g parent others same)
          ∙ (ap (λ (zs : List CollectedField). zs ++ map rewritten_field (fields_in e T f parent others)) (map_where rewritten_field (is_included e.values x) (fields_of e T f parent x))
          ∙ sym (map-append rewritten_field (if is_included e.values x then fields_of e T f parent x else []) (fields_in e T f parent others)))))

    same_entered : (f g : List ℕ → List CollectedField) (o : Option FragmentData) → AreSame f g → fields_entered e' T g (option_map (rewritten_fragment e.schema alias) o) ≡ map rewritten_field (fields_entered e T f o)
    same_entered f g None same = refl
    same_entered f g (Some b) same =
        ap (λ (zs : List CollectedField). if applies_by_name e.schema T b.on.0 then zs else []) (same_all f g (composite_named e.schema b.on.0) b.below same) ∙ map_where rewritten_field (applies_by_name e.schema T b.on.0) (fields_in e T f (composite_named e.schema b.on.0) b.below)

    same_spread : (depth : ℕ) → AreSame (fields_spread e T depth) (fields_spread e' T depth)
    unfolding fields_spread
    same_spread zero name = refl
    same_spread (suc depth) name = ap (fields_entered e' T (fields_spread e' T depth)) (same_fragment name) ∙ same_entered (fields_spread e T depth) (fields_spread e' T depth) (fragment_named e name) (same_spread depth)

    includes_added : is_included e.values (typename_under alias) ≡ true
    unfolding is_included
    includes_added = refl

    -- the end of a selection set
    with_end : (g : List ℕ → List CollectedField) (parent : Option ℕ) (xs : SelectionTrees) → fields_in e' T g parent (and_then xs (typename_under alias)) ≡ fields_in e' T g parent xs ++ (added_field alias parent ∷ [])
    unfolding and_then
    with_end g parent no_selection = rw (includes_added) refl
    with_end g parent (selection_then x others) =
        ap (λ (zs : List CollectedField). (if is_included e.values x then fields_of e' T g parent x else []) ++ zs) (with_end g parent others) ∙ sym (append_assoc (if is_included e.values x then fields_of e' T g parent x else []) (fields_in e' T g parent others) (added_field alias parent ∷ []))

    abbrev pub end_of : Bool → Option ℕ → SelectionTrees → List CollectedField
    end_of asked parent no_selection = []
    end_of true parent (selection_then x others) = added_field alias parent ∷ []
    end_of false parent (selection_then x others) = []

    fields_ended : (g : List ℕ → List CollectedField) (asked : Bool) (parent : Option ℕ) (xs : SelectionTrees) → fields_in e' T g parent (ended alias asked xs) ≡ fields_in e' T g parent xs ++ end_of asked parent xs
    fields_ended g asked parent no_selection = refl
    fields_ended g true parent (selection_then x others) = with_end g parent (selection_then x others)
    fields_ended g false parent (selection_then x others) = sym (append-nil (fields_in e' T g parent (selection_then x others)))

    -- ---- one list of selections

    module _ (depth : ℕ) where
      abbrev mine : WrittenSelections → List CollectedField
      mine w = fields_written e T (fields_spread e T depth) w

      abbrev theirs : WrittenSelections → List CollectedField
      theirs v = fields_written e' T (fields_spread e' T depth) v

      of_item : (asked : Bool) (w v : WrittenSelections) → v ≡ (w.0, ended alias asked (rewritten_selections e.schema alias w.0 w.1)) → theirs v ≡ map rewritten_field (mine w) ++ end_of asked w.0 (rewritten_selections e.schema alias w.0 w.1)
      of_item asked w v is =
          ap theirs is ∙ (fields_ended (fields_spread e' T depth) asked w.0 (rewritten_selections e.schema alias w.0 w.1)
          ∙ ap (λ (zs : List CollectedField). zs ++ end_of asked w.0 (rewritten_selections e.schema alias w.0 w.1)) (same_all (fields_spread e T depth) (fields_spread e' T depth) w.0 w.1 (same_spread depth)))

      -- ---- the client's own fields have other keys

      mutual
        free_one : (f : List ℕ → List CollectedField) (parent : Option ℕ) (x : SelectionTree) → ((name : List ℕ) → Each (IsFreeField alias) (f name)) → IsFreeOne alias x → Each (IsFreeField alias) (fields_of e T f parent x)
        free_one f parent (field_selection names arguments directives below) spreads free = (free, tt)
        free_one f parent (fragment_spread name directives) spreads free = spreads name.0
        free_one f parent (inline_fragment on directives below) spreads free = each_where (IsFreeField alias) (applies_if_named e.schema T on) (fields_in e T f (below_inline e.schema parent on) below) (free_all f (below_inline e.schema parent on) below spreads free)

        free_all : (f : List ℕ → List CollectedField) (parent : Option ℕ) (xs : SelectionTrees) → ((name : List ℕ) → Each (IsFreeField alias) (f name)) → IsFree alias xs → Each (IsFreeField alias) (fields_in e T f parent xs)
        free_all f parent no_selection spreads free = tt
        free_all f parent (selection_then x others) spreads free =
            each_append (IsFreeField alias) (if is_included e.values x then fields_of e T f parent x else []) (fields_in e T f parent others)
            (each_where (IsFreeField alias) (is_included e.values x) (fields_of e T f parent x) (free_one f parent x spreads free.0)) (free_all f parent others spreads free.1)

      free_entered : (f : List ℕ → List CollectedField) (fs : List FragmentData) (name : List ℕ) → ((other : List ℕ) → Each (IsFreeField alias) (f other)) → AreFragmentsFree alias fs → Each (IsFreeField alias) (fields_entered e T f (find (λ x. bytes_eq (fragment_name x) name) fs))
      free_entered f [] name spreads free = tt
      free_entered f (b ∷ fs) name spreads free = ⊎_elim
          (λ (is : bytes_eq (fragment_name b) name ≡ true). rw (is) (each_where (IsFreeField alias) (applies_by_name e.schema T b.on.0) (fields_in e T f (composite_named e.schema b.on.0) b.below) (free_all f (composite_named e.schema b.on.0) b.below spreads free.0)))
          (λ (is : bytes_eq (fragment_name b) name ≡ false). rw (is) (free_entered f fs name spreads free.1))
          (cases_Bool (bytes_eq (fragment_name b) name))

    free_spread : (depth : ℕ) (name : List ℕ) → AreFragmentsFree alias e.fragments → Each (IsFreeField alias) (fields_spread e T depth name)
    unfolding fields_spread fragment_named
    free_spread zero name free = tt
    free_spread (suc depth) name free = free_entered depth (fields_spread e T depth) e.fragments name (λ other. free_spread depth other free) free

    own_map : (fs : List CollectedField) → Each (IsFreeField alias) fs → filter (is_own alias) (map rewritten_field fs) ≡ map rewritten_field fs
    own_map [] free = refl
    own_map (f ∷ fs) free = rw (free.0.0) (ap (λ (zs : List CollectedField). rewritten_field f ∷ zs) (own_map fs free.1))

    own_end : (asked : Bool) (parent : Option ℕ) (xs : SelectionTrees) → filter (is_own alias) (end_of asked parent xs) ≡ []
    own_end asked parent no_selection = refl
    own_end true parent (selection_then x others) = rw (self alias) refl
    own_end false parent (selection_then x others) = refl

    added_end : (asked : Bool) (parent : Option ℕ) (xs : SelectionTrees) → Each (IsAddedUnderAlias alias) (end_of asked parent xs)
    added_end asked parent no_selection = tt
    added_end true parent (selection_then x others) = (λ is. refl, tt)
    added_end false parent (selection_then x others) = tt

    added_map : (fs : List CollectedField) → Each (IsFreeField alias) fs → Each (IsAddedUnderAlias alias) (map rewritten_field fs)
    added_map [] free = tt
    added_map (f ∷ fs) free = (λ is. absurd (true≢false (sym is ∙ free.0.0)), added_map fs free.1)

    -- ---- the selections of a position

    abbrev pub all_mine : ℕ → List WrittenSelections → List CollectedField
    all_mine depth ws = collected_to e T depth ws

    abbrev pub all_theirs : ℕ → List WrittenSelections → List CollectedField
    all_theirs depth vs = collected_to e' T depth vs

    pub free_fields : (depth : ℕ) (ws : List WrittenSelections) → AreFragmentsFree alias e.fragments → AreFree alias ws → Each (IsFreeField alias) (all_mine depth ws)
    free_fields depth [] fragments free = tt
    free_fields depth (w ∷ ws) fragments free =
        each_append (IsFreeField alias) (mine depth w) (all_mine depth ws) (free_all depth (fields_spread e T depth) w.0 w.1 (λ name. free_spread depth name fragments) free.0) (free_fields depth ws fragments free.1)

    pub own_fields : (depth : ℕ) (ws vs : List WrittenSelections) → AreFragmentsFree alias e.fragments → AreFree alias ws → AreRewritten alias e.schema ws vs → filter (is_own alias) (all_theirs depth vs) ≡ map rewritten_field (all_mine depth ws)
    own_fields depth [] [] fragments free r = refl
    own_fields depth [] (v ∷ vs) fragments free r = absurd r
    own_fields depth (w ∷ ws) [] fragments free r = absurd r
    own_fields depth (w ∷ ws) (v ∷ vs) fragments free r =
        let ends : List CollectedField = end_of r.0.0 w.0 (rewritten_selections e.schema alias w.0 w.1) in
        let here : List CollectedField = map rewritten_field (mine depth w) in
        filter-append (is_own alias) (theirs depth v) (all_theirs depth vs)
        ∙ (ap (λ (zs : List CollectedField). filter (is_own alias) zs ++ filter (is_own alias) (all_theirs depth vs)) (of_item depth r.0.0 w v r.0.1)
        ∙ (ap (λ (zs : List CollectedField). zs ++ filter (is_own alias) (all_theirs depth vs))
        (filter-append (is_own alias) here ends
        ∙ (ap (λ (zs : List CollectedField). filter (is_own alias) here ++ zs) (own_end r.0.0 w.0 (rewritten_selections e.schema alias w.0 w.1))
        ∙ (append-nil (filter (is_own alias) here) ∙ own_map (mine depth w) (free_all depth (fields_spread e T depth) w.0 w.1 (λ name. free_spread depth name fragments) free.0))))
        ∙ (ap (λ (zs : List CollectedField). here ++ zs) (own_fields depth ws vs fragments free.1 r.1)
        ∙ sym (map-append rewritten_field (mine depth w) (all_mine depth ws)))))

    pub added_fields : (depth : ℕ) (ws vs : List WrittenSelections) → AreFragmentsFree alias e.fragments → AreFree alias ws → AreRewritten alias e.schema ws vs → Each (IsAddedUnderAlias alias) (all_theirs depth vs)
    added_fields depth [] [] fragments free r = tt
    added_fields depth [] (v ∷ vs) fragments free r = absurd r
    added_fields depth (w ∷ ws) [] fragments free r = absurd r
    added_fields depth (w ∷ ws) (v ∷ vs) fragments free r =
        let ends : List CollectedField = end_of r.0.0 w.0 (rewritten_selections e.schema alias w.0 w.1) in
        each_append (IsAddedUnderAlias alias) (theirs depth v) (all_theirs depth vs)
        (subst (Each (IsAddedUnderAlias alias)) (sym (of_item depth r.0.0 w v r.0.1))
        (each_append (IsAddedUnderAlias alias) (map rewritten_field (mine depth w)) ends
        (added_map (mine depth w) (free_all depth (fields_spread e T depth) w.0 w.1 (λ name. free_spread depth name fragments) free.0))
        (added_end r.0.0 w.0 (rewritten_selections e.schema alias w.0 w.1))))
        (added_fields depth ws vs fragments free.1 r.1)

    -- both go as deep into fragments
    pub same_nesting : nesting e' ≡ nesting e
    same_nesting = ap (λ (n : ℕ). n + 2) (length-map e.fragments (rewritten_fragment e.schema alias))
