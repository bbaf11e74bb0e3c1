-- Each response to the client's own selections is that to the rewritten ones, without the names of types that were added.
use Rattle.std.proofs.Common.{◌≡◌, ◌⊎◌, inl, inr, ⊎_elim, ℕ, suc, List, [], ◌∷◌, Bool, true, false, bytes_eq, Option, None, refl, sym, ap, ap₂, ◌∙◌, subst}
use Rattle.std.specs.Prelude.{if◌then◌else◌}
use Rattle.std.proofs.lemmas.Bool.{cases_Bool}
use Rattle.serde_json.specs.Data.{string}
use Rattle.response_model.specs.Plan.{Form, single, listed, type_name}
use Rattle.response_model.specs.Response.{Tree, null, leaf, list_of, object, Elements, no_element, element, Entries, no_entry, entry, count, IsWithin}
use Rattle.schema_model.specs.SchemaData.{type_at}
use Rattle.plan_model.specs.SelectedFields.{Setting, FieldCall, Place, leaf_place, object_place, form_at, place_at, size_at}
use Rattle.plan_model.specs.Merging.{Position, fields_at, keys_at, call_under, below_key}
use Rattle.plan_model.specs.Responses.{FitsSelections, EntriesFitSelections, ElementsFitSelections, KeepsSizes, EntriesKeepSizes, ElementsKeepSizes}
use Rattle.stripped_responses.specs.Stripping.{stripped, stripped_entries, stripped_elements, IsRewritten, HasNoAlias}
use Rattle.stripped_responses.proofs.RewrittenFields.{Each, typename_call, e'}
use Rattle.stripped_responses.proofs.RewrittenKeys.{own_keys, IsTypename, Between, between}
use Rattle.stripped_responses.proofs.SameCalls.{typename_form, typename_place}
use Rattle.stripped_responses.proofs.Stripping.{own_form, own_place, own_size}

module _ (alias : List ℕ) (e : Setting) where
  abbrev w : Setting
  w = e' alias e

  -- the name of a type
  abbrev typename_value : ℕ → Tree
  typename_value T = leaf (string (type_at w.schema T).name)

  pub record Fills (form : Form) (size : Option ℕ) (place : Place) (p q : Position) (s : Tree) : Type 0 where
    pub tree : Tree
    pub fits : FitsSelections w form place q tree
    pub keeps : KeepsSizes e size place p s → KeepsSizes w size place q tree
    pub strips : stripped alias tree ≡ s

  record EntriesFill (T : ℕ) (ks ls : List (List ℕ)) (p q : Position) (fs : Entries) : Type 0 where
    entries : Entries
    fits : EntriesFitSelections w T ks q entries
    keeps : EntriesKeepSizes e T ls p fs → EntriesKeepSizes w T ks q entries
    strips : stripped_entries alias entries ≡ fs

  record ElementsFill (nullable : Bool) (place : Place) (p q : Position) (us : Elements) : Type 0 where
    elements : Elements
    fits : ElementsFitSelections w nullable place q elements
    keeps : ElementsKeepSizes e place p us → ElementsKeepSizes w place q elements
    strips : stripped_elements alias elements ≡ us
    length : count elements ≡ count us

  -- a key that isn't the alias
  abbrev IsOwn : List ℕ → Type 0
  IsOwn k = bytes_eq k alias ≡ false

  own_are_own : (ks : List (List ℕ)) → Each IsOwn (own_keys alias ks)
  own_are_own [] = tt
  own_are_own (k ∷ ks) = by_alias (bytes_eq k alias) k (own_keys alias ks) (own_are_own ks) (λ isnt. isnt)
    where
      by_alias : (b : Bool) (k : List ℕ) (ls : List (List ℕ)) → Each IsOwn ls → (b ≡ false → IsOwn k) → Each IsOwn (if b then ls else k ∷ ls)
      by_alias true k ls own here = own
      by_alias false k ls own here = (here refl, own)

  module _ (T : ℕ) where
    typename_fits : (q : Position) (c : FieldCall) → c ≡ typename_call → FitsSelections w (form_at w T c) (place_at w T c) q (typename_value T)
    typename_fits q c is =
        subst (λ (f : Form). FitsSelections w f (place_at w T c) q (typename_value T)) (sym (ap (form_at w T) is ∙ typename_form alias w T))
        (subst (λ (z : Place). FitsSelections w (single false) z q (typename_value T)) (sym (ap (place_at w T) is ∙ typename_place alias w T)) (refl, refl))

    typename_keeps : (size : Option ℕ) (place : Place) (q : Position) → KeepsSizes w size place q (typename_value T)
    typename_keeps size (leaf_place type weight fill) q = tt
    typename_keeps size (object_place Ts) q = tt

    -- ---- entries under the alias are added to others

    record Added (ks ls : List (List ℕ)) (q : Position) (gs : Entries) : Type 0 where
      entries : Entries
      fits : EntriesFitSelections w T ks q entries
      keeps : EntriesKeepSizes w T ls q gs → EntriesKeepSizes w T ks q entries
      strips : stripped_entries alias entries ≡ stripped_entries alias gs

    comes : (k : List ℕ) (ks ls : List (List ℕ)) (q : Position) (gs : Entries) → bytes_eq k alias ≡ true → call_under w T k q ≡ typename_call → Added ks ls q gs → Added (k ∷ ks) ls q gs
    comes k ks ls q gs is call rest = record {
      entries = entry k (typename_value T) rest.entries;
      fits = (refl, typename_fits (below_key w T k q) (call_under w T k q) call, rest.fits);
      keeps = λ kept. (typename_keeps (size_at w T (call_under w T k q) q.handed) (place_at w T (call_under w T k q)) (below_key w T k q), rest.keeps kept);
      strips = rw (is) rest.strips;
    }

    remains : (k key : List ℕ) (ks ls : List (List ℕ)) (q : Position) (t : Tree) (gs : Entries) → EntriesFitSelections w T (k ∷ ls) q (entry key t gs) → Added ks ls q gs → Added (k ∷ ks) (k ∷ ls) q (entry key t gs)
    remains k key ks ls q t gs fits rest = record {
      entries = entry key t rest.entries;
      fits = (fits.0, fits.1, rest.fits);
      keeps = λ kept. (kept.0, rest.keeps kept.1);
      strips = ap (λ (hs : Entries). if bytes_eq key alias then hs else entry key (stripped alias t) hs) rest.strips;
    }

    either : (b : Bool) (k : List ℕ) (ks ls : List (List ℕ)) (q : Position) (gs : Entries)
        → (b ≡ true → EntriesFitSelections w T ls q gs → Added (k ∷ ks) ls q gs) → (b ≡ false → EntriesFitSelections w T (k ∷ ls) q gs → Added (k ∷ ks) (k ∷ ls) q gs)
        → EntriesFitSelections w T (if b then ls else k ∷ ls) q gs → Added (k ∷ ks) (if b then ls else k ∷ ls) q gs
    either true k ks ls q gs is isnt fits = is refl fits
    either false k ks ls q gs is isnt fits = isnt refl fits

    with_added : (ks : List (List ℕ)) (q : Position) (gs : Entries) → Each (IsTypename alias (fields_at w T q)) ks → EntriesFitSelections w T (own_keys alias ks) q gs → Added ks (own_keys alias ks) q gs
    with_added [] q gs typenames fits = record { entries = gs; fits = fits; keeps = λ kept. kept; strips = refl }
    with_added (k ∷ ks) q no_entry typenames fits =
        either (bytes_eq k alias) k ks (own_keys alias ks) q no_entry
        (λ is own. comes k ks (own_keys alias ks) q no_entry is (typenames.0 is) (with_added ks q no_entry typenames.1 own))
        (λ isnt own. absurd own) fits
    with_added (k ∷ ks) q (entry key t gs) typenames fits =
        either (bytes_eq k alias) k ks (own_keys alias ks) q (entry key t gs)
        (λ is own. comes k ks (own_keys alias ks) q (entry key t gs) is (typenames.0 is) (with_added ks q (entry key t gs) typenames.1 own))
        (λ isnt own. remains k key ks (own_keys alias ks) q t gs own (with_added ks q gs typenames.1 own.2)) fits

    -- ---- the client's own entries

    stays : (k key : List ℕ) (ls : List (List ℕ)) (p q : Position) (s : Tree) (fs : Entries) → bytes_eq k alias ≡ false → call_under w T k q ≡ call_under e T k p → q.handed ≡ p.handed → k ≡ key
        → Fills (form_at e T (call_under e T k p)) (size_at e T (call_under e T k p) p.handed) (place_at e T (call_under e T k p)) (below_key e T k p) (below_key w T k q) s
        → EntriesFill T ls ls p q fs → EntriesFill T (k ∷ ls) (k ∷ ls) p q (entry key s fs)
    stays k key ls p q s fs isnt is handed same value rest =
        let form : form_at e T (call_under e T k p) ≡ form_at w T (call_under w T k q) = sym (own_form alias e T k p q is) in
        let place : place_at e T (call_under e T k p) ≡ place_at w T (call_under w T k q) = sym (own_place alias e T k p q is) in
        let size : size_at e T (call_under e T k p) p.handed ≡ size_at w T (call_under w T k q) q.handed = sym (own_size alias e T k p q is handed) in
        record {
          entries = entry k value.tree rest.entries;
          fits = (refl, subst (λ (z : Place). FitsSelections w (form_at w T (call_under w T k q)) z (below_key w T k q) value.tree) place (subst (λ (f : Form). FitsSelections w f (place_at e T (call_under e T k p)) (below_key w T k q) value.tree) form value.fits), rest.fits);
          keeps = λ kept. (
            subst (λ (z : Place). KeepsSizes w (size_at w T (call_under w T k q) q.handed) z (below_key w T k q) value.tree) place
                (subst (λ (n : Option ℕ). KeepsSizes w n (place_at e T (call_under e T k p)) (below_key w T k q) value.tree) size (value.keeps kept.0)),
            rest.keeps kept.1,
          );
          strips = rw (isnt) (ap (λ (x : Tree). entry k x (stripped_entries alias rest.entries)) value.strips ∙ (ap (λ (gs : Entries). entry k s gs) rest.strips ∙ ap (λ (z : List ℕ). entry z s fs) same));
        }

  mutual
    pub value_filled : (form : Form) (size : Option ℕ) (place : Place) (p q : Position) (s : Tree) → HasNoAlias alias e p → IsRewritten alias e.schema p q → FitsSelections e form place p s → Fills form size place p q s
    value_filled form size place p q null none r fits = record { tree = null; fits = fits; keeps = λ kept. tt; strips = refl }
    value_filled (single nullable) size (leaf_place type weight fill) p q (leaf json) none r fits = record { tree = leaf json; fits = fits; keeps = λ kept. tt; strips = refl }
    value_filled (single nullable) size (object_place Ts) p q (leaf json) none r fits = absurd fits
    value_filled (listed nullable item_nullable) size place p q (leaf json) none r fits = absurd fits
    value_filled (single nullable) size place p q (list_of us) none r fits = absurd fits
    value_filled (listed nullable item_nullable) size place p q (list_of us) none r fits =
        let items : ElementsFill item_nullable place p q us = elements_filled item_nullable place p q us none r fits in
        record { tree = list_of items.elements; fits = items.fits; keeps = λ kept. (subst (IsWithin size) (sym items.length) kept.0, items.keeps kept.1); strips = ap list_of items.strips }
    value_filled (single nullable) size (leaf_place type weight fill) p q (object T fs) none r fits = absurd fits
    value_filled (single nullable) size (object_place Ts) p q (object T fs) none r fits =
        let m : Between alias e T p q = between alias e T p q none r in
        let ks : List (List ℕ) = keys_at w T q in
        let own : EntriesFill T (own_keys alias ks) (own_keys alias ks) p q fs =
        entries_filled T (own_keys alias ks) p q fs r.handed m (own_are_own ks) (subst (λ (ls : List (List ℕ)). EntriesFitSelections e T ls p fs) (sym m.keys) fits.1) in
        let all : Added T ks (own_keys alias ks) q own.entries = with_added T ks q own.entries m.typenames own.fits in
        record {
          tree = object T all.entries;
          fits = (fits.0, all.fits);
          keeps = λ kept. all.keeps (own.keeps (subst (λ (ls : List (List ℕ)). EntriesKeepSizes e T ls p fs) (sym m.keys) kept));
          strips = ap (object T) (all.strips ∙ own.strips);
        }
    value_filled (listed nullable item_nullable) size place p q (object T fs) none r fits = absurd fits

    entries_filled : (T : ℕ) (ls : List (List ℕ)) (p q : Position) (fs : Entries) → q.handed ≡ p.handed → Between alias e T p q → Each IsOwn ls → EntriesFitSelections e T ls p fs → EntriesFill T ls ls p q fs
    entries_filled T [] p q no_entry handed m own fits = record { entries = no_entry; fits = tt; keeps = λ kept. tt; strips = refl }
    entries_filled T [] p q (entry key s fs) handed m own fits = absurd fits
    entries_filled T (k ∷ ls) p q no_entry handed m own fits = absurd fits
    entries_filled T (k ∷ ls) p q (entry key s fs) handed m own fits =
        stays T k key ls p q s fs own.0 (m.calls k own.0) handed fits.0
        (value_filled (form_at e T (call_under e T k p)) (size_at e T (call_under e T k p) p.handed) (place_at e T (call_under e T k p)) (below_key e T k p) (below_key w T k q) s (m.free k) (m.below k own.0) fits.1)
        (entries_filled T ls p q fs handed m own.1 fits.2)

    elements_filled : (nullable : Bool) (place : Place) (p q : Position) (us : Elements) → HasNoAlias alias e p → IsRewritten alias e.schema p q → ElementsFitSelections e nullable place p us → ElementsFill nullable place p q us
    elements_filled nullable place p q no_element none r fits = record { elements = no_element; fits = tt; keeps = λ kept. tt; strips = refl; length = refl }
    elements_filled nullable place p q (element u us) none r fits =
        let first : Fills (single nullable) None place p q u = value_filled (single nullable) None place p q u none r fits.0 in
        let rest : ElementsFill nullable place p q us = elements_filled nullable place p q us none r fits.1 in
        record {
          elements = element first.tree rest.elements;
          fits = (first.fits, rest.fits);
          keeps = λ kept. (first.keeps kept.0, rest.keeps kept.1);
          strips = ap₂ element first.strips rest.strips;
          length = ap suc rest.length;
        }
