-- A response to rewritten selections, without the names of types that were added, is one to the client's own at the same cost.
use Rattle.std.proofs.Common.{◌≡◌, ◌⊎◌, inl, inr, ⊎_elim, ℕ, suc, ◌+◌, List, [], ◌∷◌, Bool, true, false, bytes_eq, Option, None, refl, sym, ap, ◌∙◌, subst, arith}
use Rattle.std.specs.Prelude.{if◌then◌else◌}
use Rattle.std.proofs.lemmas.Bool.{cases_Bool}
use Rattle.serde_json.specs.Data.{Data, string}
use Rattle.response_model.specs.Plan.{Form, single, listed, Selected, type_name}
use Rattle.response_model.specs.Response.{Tree, null, leaf, list_of, object, Elements, no_element, element, Entries, no_entry, entry, count, IsWithin}
use Rattle.response_model.specs.Cost.{Part, types, fields, value_cost, entry_cost}
use Rattle.schema_model.specs.SchemaData.{type_at}
use Rattle.plan_model.specs.SelectedFields.{Setting, FieldCall, HandedSize, Place, leaf_place, object_place, form_at, place_at, size_at, weight_at, cost_at}
use Rattle.plan_model.specs.Merging.{Position, fields_at, keys_at, call_under, selected_under, below_key}
use Rattle.plan_model.specs.Plans.{type_weight}
use Rattle.plan_model.specs.Responses.{FitsSelections, EntriesFitSelections, ElementsFitSelections, KeepsSizes, EntriesKeepSizes, ElementsKeepSizes, response_cost, entries_cost, elements_cost}
use Rattle.stripped_responses.specs.Stripping.{stripped, stripped_entries, stripped_elements, IsRewritten, HasNoAlias}
use Rattle.stripped_responses.proofs.RewrittenFields.{Each, typename_call, e'}
use Rattle.stripped_responses.proofs.RewrittenKeys.{own_keys, IsTypename, Between, between}
use Rattle.stripped_responses.proofs.SameCalls.{same_form, same_place, same_size, same_weight, same_cost, typename_form, typename_place, typename_weight, typename_cost}

-- a value of no weight
weightless : (part : Part) → value_cost part 0 ≡ 0
weightless types = refl
weightless fields = refl

-- an entry without weight and arguments
free_entry : (part : Part) (s : Selected) → s.weight ≡ 0 → s.arguments ≡ 0 → entry_cost part s ≡ 0
free_entry types s weight arguments = refl
free_entry fields s weight arguments = omega (arith, weight, arguments)

pub entry_alike : (part : Part) (s r : Selected) → s.weight ≡ r.weight → s.arguments ≡ r.arguments → entry_cost part s ≡ entry_cost part r
entry_alike types s r weight arguments = refl
entry_alike fields s r weight arguments = omega (arith, weight, arguments)

sum_alike : (a b c a' b' c' : ℕ) → a ≡ a' → b ≡ b' → c ≡ c' → a + b + c ≡ a' + b' + c'
sum_alike a b c a' b' c' p q r = omega (arith, p, q, r)

sum_zero : (a b c c' : ℕ) → a ≡ 0 → b ≡ 0 → c ≡ c' → a + b + c ≡ c'
sum_zero a b c c' p q r = omega (arith, p, q, r)

module _ (alias : List ℕ) (e : Setting) where
  abbrev w : Setting
  w = e' alias e

  same_count : (ts : Elements) → count (stripped_elements alias ts) ≡ count ts
  same_count no_element = refl
  same_count (element t ts) = ap suc (same_count ts)

  pub record Stripped (form : Form) (place : Place) (p q : Position) (t s : Tree) : Type 0 where
    pub fits : FitsSelections e form place p s
    pub keeps : (size : Option ℕ) → KeepsSizes w size place q t → KeepsSizes e size place p s
    pub costs : (part : Part) → response_cost w part place q t ≡ response_cost e part place p s

  record EntriesStripped (T : ℕ) (ks ls : List (List ℕ)) (p q : Position) (es fs : Entries) : Type 0 where
    fits : EntriesFitSelections e T ls p fs
    keeps : EntriesKeepSizes w T ks q es → EntriesKeepSizes e T ls p fs
    costs : (part : Part) → entries_cost w part T ks q es ≡ entries_cost e part T ls p fs

  record ElementsStripped (nullable : Bool) (place : Place) (p q : Position) (ts us : Elements) : Type 0 where
    fits : ElementsFitSelections e nullable place p us
    keeps : ElementsKeepSizes w place q ts → ElementsKeepSizes e place p us
    costs : (part : Part) → elements_cost w part place q ts ≡ elements_cost e part place p us

  -- ---- what stands under the alias costs nothing

  leaf_costs : (part : Part) (fill : Data) (q : Position) (t : Tree) → FitsSelections w (single false) (leaf_place type_name 0 fill) q t → response_cost w part (leaf_place type_name 0 fill) q t ≡ 0
  leaf_costs part fill q null fits = refl
  leaf_costs part fill q (leaf json) fits = weightless part
  leaf_costs part fill q (list_of ts) fits = absurd fits
  leaf_costs part fill q (object T es) fits = absurd fits

  module _ (T : ℕ) where
    typename_costs : (part : Part) (q : Position) (t : Tree) (c : FieldCall) → c ≡ typename_call → FitsSelections w (form_at w T c) (place_at w T c) q t → response_cost w part (place_at w T c) q t ≡ 0
    typename_costs part q t c is fits =
        let form : form_at w T c ≡ single false = ap (form_at w T) is ∙ typename_form alias w T in
        let place : place_at w T c ≡ leaf_place type_name 0 (string (type_at w.schema T).name) = ap (place_at w T) is ∙ typename_place alias w T in
        ap (λ (z : Place). response_cost w part z q t) place
        ∙ leaf_costs part (string (type_at w.schema T).name) q t (subst (λ (z : Place). FitsSelections w (single false) z q t) place (subst (λ (f : Form). FitsSelections w f (place_at w T c) q t) form fits))

    typename_entry : (part : Part) (k : List ℕ) (q : Position) → call_under w T k q ≡ typename_call → entry_cost part (selected_under w T k q) ≡ 0
    typename_entry part k q is =
        free_entry part (selected_under w T k q) (ap (weight_at w T) is ∙ typename_weight alias w T) (ap (cost_at w T) is ∙ typename_cost alias w T)

    own_entry : (part : Part) (k : List ℕ) (p q : Position) → call_under w T k q ≡ call_under e T k p → entry_cost part (selected_under w T k q) ≡ entry_cost part (selected_under e T k p)
    own_entry part k p q is =
        entry_alike part (selected_under w T k q) (selected_under e T k p)
        (ap (weight_at w T) is ∙ same_weight alias e T (call_under e T k p))
        (ap (cost_at w T) is ∙ same_cost alias e T (call_under e T k p))

    pub own_form : (k : List ℕ) (p q : Position) → call_under w T k q ≡ call_under e T k p → form_at w T (call_under w T k q) ≡ form_at e T (call_under e T k p)
    own_form k p q is = ap (form_at w T) is ∙ same_form alias e T (call_under e T k p)

    pub own_place : (k : List ℕ) (p q : Position) → call_under w T k q ≡ call_under e T k p → place_at w T (call_under w T k q) ≡ place_at e T (call_under e T k p)
    own_place k p q is = ap (place_at w T) is ∙ same_place alias e T (call_under e T k p)

    pub own_size : (k : List ℕ) (p q : Position) → call_under w T k q ≡ call_under e T k p → q.handed ≡ p.handed → size_at w T (call_under w T k q) q.handed ≡ size_at e T (call_under e T k p) p.handed
    own_size k p q is handed =
        ap (λ (c : FieldCall). size_at w T c q.handed) is ∙ (ap (size_at w T (call_under e T k p)) handed ∙ same_size alias e T (call_under e T k p) p.handed)

    -- an added entry goes
    goes : (k key : List ℕ) (ks ls : List (List ℕ)) (p q : Position) (t : Tree) (es fs : Entries) → call_under w T k q ≡ typename_call → EntriesFitSelections w T (k ∷ ks) q (entry key t es)
        → EntriesStripped T ks ls p q es fs → EntriesStripped T (k ∷ ks) ls p q (entry key t es) fs
    goes k key ks ls p q t es fs is fits rest = record {
      fits = rest.fits;
      keeps = λ kept. rest.keeps kept.1;
      costs = λ part.
          sum_zero (entry_cost part (selected_under w T k q)) (response_cost w part (place_at w T (call_under w T k q)) (below_key w T k q) t) (entries_cost w part T ks q es) (entries_cost e part T ls p fs)
          (typename_entry part k q is) (typename_costs part (below_key w T k q) t (call_under w T k q) is fits.1) (rest.costs part);
    }

    -- another stays
    stays : (k key : List ℕ) (ks ls : List (List ℕ)) (p q : Position) (t : Tree) (es fs : Entries) → call_under w T k q ≡ call_under e T k p → q.handed ≡ p.handed → k ≡ key
        → Stripped (form_at w T (call_under w T k q)) (place_at w T (call_under w T k q)) (below_key e T k p) (below_key w T k q) t (stripped alias t)
        → EntriesStripped T ks ls p q es fs → EntriesStripped T (k ∷ ks) (k ∷ ls) p q (entry key t es) (entry key (stripped alias t) fs)
    stays k key ks ls p q t es fs is handed same value rest =
        let s : Tree = stripped alias t in
        let form : form_at w T (call_under w T k q) ≡ form_at e T (call_under e T k p) = own_form k p q is in
        let place : place_at w T (call_under w T k q) ≡ place_at e T (call_under e T k p) = own_place k p q is in
        record {
          fits = (same, subst (λ (z : Place). FitsSelections e (form_at e T (call_under e T k p)) z (below_key e T k p) s) place (subst (λ (f : Form). FitsSelections e f (place_at w T (call_under w T k q)) (below_key e T k p) s) form value.fits), rest.fits);
          keeps = λ kept. (
            subst (λ (z : Place). KeepsSizes e (size_at e T (call_under e T k p) p.handed) z (below_key e T k p) s) place
                (subst (λ (n : Option ℕ). KeepsSizes e n (place_at w T (call_under w T k q)) (below_key e T k p) s) (own_size k p q is handed) (value.keeps (size_at w T (call_under w T k q) q.handed) kept.0)),
            rest.keeps kept.1,
          );
          costs = λ part.
              sum_alike (entry_cost part (selected_under w T k q)) (response_cost w part (place_at w T (call_under w T k q)) (below_key w T k q) t) (entries_cost w part T ks q es)
              (entry_cost part (selected_under e T k p)) (response_cost e part (place_at e T (call_under e T k p)) (below_key e T k p) s) (entries_cost e part T ls p fs)
              (own_entry part k p q is) (value.costs part ∙ ap (λ (z : Place). response_cost e part z (below_key e T k p) s) place) (rest.costs part);
        }

    either : (b : Bool) (k key : List ℕ) (ks ls : List (List ℕ)) (p q : Position) (t : Tree) (es fs : Entries)
        → (b ≡ true → EntriesStripped T (k ∷ ks) ls p q (entry key t es) fs)
        → (b ≡ false → EntriesStripped T (k ∷ ks) (k ∷ ls) p q (entry key t es) (entry key (stripped alias t) fs))
        → EntriesStripped T (k ∷ ks) (if b then ls else k ∷ ls) p q (entry key t es) (if b then fs else entry key (stripped alias t) fs)
    either true k key ks ls p q t es fs is isnt = is refl
    either false k key ks ls p q t es fs is isnt = isnt refl

  mutual
    pub value_stripped : (form : Form) (place : Place) (p q : Position) (t : Tree) → HasNoAlias alias e p → IsRewritten alias e.schema p q → FitsSelections w form place q t → Stripped form place p q t (stripped alias t)
    value_stripped form place p q null none r fits = record { fits = fits; keeps = λ size kept. tt; costs = λ part. refl }
    value_stripped (single nullable) (leaf_place type weight fill) p q (leaf json) none r fits = record { fits = fits; keeps = λ size kept. tt; costs = λ part. refl }
    value_stripped (single nullable) (object_place Ts) p q (leaf json) none r fits = absurd fits
    value_stripped (listed nullable item_nullable) place p q (leaf json) none r fits = absurd fits
    value_stripped (single nullable) place p q (list_of ts) none r fits = absurd fits
    value_stripped (listed nullable item_nullable) place p q (list_of ts) none r fits =
        let items : ElementsStripped item_nullable place p q ts (stripped_elements alias ts) = elements_stripped item_nullable place p q ts none r fits in
        record { fits = items.fits; keeps = λ size kept. (subst (IsWithin size) (sym (same_count ts)) kept.0, items.keeps kept.1); costs = items.costs }
    value_stripped (single nullable) (leaf_place type weight fill) p q (object T es) none r fits = absurd fits
    value_stripped (single nullable) (object_place Ts) p q (object T es) none r fits =
        let m : Between alias e T p q = between alias e T p q none r in
        let all : EntriesStripped T (keys_at w T q) (own_keys alias (keys_at w T q)) p q es (stripped_entries alias es) = entries_stripped T (keys_at w T q) p q es r.handed m m.typenames fits.1 in
        let own : EntriesStripped T (keys_at w T q) (keys_at e T p) p q es (stripped_entries alias es) = subst (λ (ks : List (List ℕ)). EntriesStripped T (keys_at w T q) ks p q es (stripped_entries alias es)) m.keys all in
        record { fits = (fits.0, own.fits); keeps = λ size kept. own.keeps kept; costs = λ part. ap (λ (n : ℕ). value_cost part (type_weight e T) + n) (own.costs part) }
    value_stripped (listed nullable item_nullable) place p q (object T es) none r fits = absurd fits

    entries_stripped : (T : ℕ) (ks : List (List ℕ)) (p q : Position) (es : Entries) → q.handed ≡ p.handed → Between alias e T p q → Each (IsTypename alias (fields_at w T q)) ks
        → EntriesFitSelections w T ks q es → EntriesStripped T ks (own_keys alias ks) p q es (stripped_entries alias es)
    entries_stripped T [] p q no_entry handed m typenames fits = record { fits = tt; keeps = λ kept. tt; costs = λ part. refl }
    entries_stripped T [] p q (entry key t es) handed m typenames fits = absurd fits
    entries_stripped T (k ∷ ks) p q no_entry handed m typenames fits = absurd fits
    entries_stripped T (k ∷ ks) p q (entry key t es) handed m typenames fits =
        let rest : EntriesStripped T ks (own_keys alias ks) p q es (stripped_entries alias es) = entries_stripped T ks p q es handed m typenames.1 fits.2 in
        subst (λ (b : Bool). EntriesStripped T (k ∷ ks) (own_keys alias (k ∷ ks)) p q (entry key t es) (if b then stripped_entries alias es else entry key (stripped alias t) (stripped_entries alias es))) (ap (λ (z : List ℕ). bytes_eq z alias) fits.0)
        (either T (bytes_eq k alias) k key ks (own_keys alias ks) p q t es (stripped_entries alias es)
        (λ is. goes T k key ks (own_keys alias ks) p q t es (stripped_entries alias es) (typenames.0 is) fits rest)
        (λ isnt. stays T k key ks (own_keys alias ks) p q t es (stripped_entries alias es) (m.calls k isnt) handed fits.0
        (value_stripped (form_at w T (call_under w T k q)) (place_at w T (call_under w T k q)) (below_key e T k p) (below_key w T k q) t (m.free k) (m.below k isnt) fits.1)
        rest))

    elements_stripped : (nullable : Bool) (place : Place) (p q : Position) (ts : Elements) → HasNoAlias alias e p → IsRewritten alias e.schema p q → ElementsFitSelections w nullable place q ts → ElementsStripped nullable place p q ts (stripped_elements alias ts)
    elements_stripped nullable place p q no_element none r fits = record { fits = tt; keeps = λ kept. tt; costs = λ part. refl }
    elements_stripped nullable place p q (element t ts) none r fits =
        let first : Stripped (single nullable) place p q t (stripped alias t) = value_stripped (single nullable) place p q t none r fits.0 in
        let rest : ElementsStripped nullable place p q ts (stripped_elements alias ts) = elements_stripped nullable place p q ts none r fits.1 in
        record {
          fits = (first.fits, rest.fits);
          keeps = λ kept. (first.keeps None kept.0, rest.keeps kept.1);
          costs = λ part. (let a = first.costs part in let b = rest.costs part in omega (arith, a, b));
        }
