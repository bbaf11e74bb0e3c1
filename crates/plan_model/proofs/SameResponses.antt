-- The responses of selections are those of their plan: they fit alike, keep sizes alike, and cost the same up to the cap.
use Rattle.std.proofs.Common.{◌≡◌, ◌↔◌, ℕ, ◌+◌, ◌≤◌, ◌<◌, min, List, [], ◌∷◌, Bool, true, false, true≢false, ◌||◌, eqb, eqb-true, Option, None, refl, sym, ap, ◌∙◌, subst, arith, ⊎_elim}
use Rattle.std.proofs.lemmas.Bool.{cases_Bool}
use Rattle.serde_json.specs.Data.{Data}
use Rattle.cost_num.specs.declared.TheConstants.{CAP}
use Rattle.cost_num.specs.Capped.{capped}
use Rattle.response_model.specs.Plan.{Form, single, listed, Selected, LeafType, Plan, leaf_plan, position, ObjectTypes, no_type, object_type, Nodes, no_node, node, is_possible, weight_of, nodes_of}
use Rattle.response_model.specs.Response.{Tree, null, leaf, list_of, object, Elements, no_element, element, Entries, no_entry, entry, count, is_null, IsLeafOf, IsWithin, Fits, EntriesFit, ElementsFit, SizesKept, EntriesKept, ElementsKept}
use Rattle.response_model.specs.Cost.{Part, types, fields, value_cost, entry_cost, cost, entries_cost as planned_entries_cost, elements_cost as planned_elements_cost}
use Rattle.response_model.specs.Bound.{IsBound, IsSound, greatest_cost}
use Rattle.response_model.proofs.Filling.{bound_is}
use Rattle.plan_model.specs.SelectedFields.{Setting, Place, leaf_place, object_place, holds, form_at, place_at, size_at}
use Rattle.plan_model.specs.Merging.{Position, keys_at, call_under, selected_under, below_key}
use Rattle.plan_model.specs.Plans.{type_weight, with_capped, IsPlan, ArePossible, AreNodes}
use Rattle.plan_model.specs.Responses.{is_among, FitsSelections, EntriesFitSelections, ElementsFitSelections, KeepsSizes, EntriesKeepSizes, ElementsKeepSizes, response_cost, entries_cost, elements_cost, IsBoundOf}

-- ---- either way

same : {A : Type 0} → A ↔ A
same = ((λ a. a), (λ a. a))

-- the second parts are compared where the first ones hold
joined : {A B C D : Type 0} → A ↔ B → (A → C ↔ D) → (A × C) ↔ (B × D)
joined f g = ((λ p. (f.0 p.0, (g p.0).0 p.1)), (λ q. (f.1 q.0, (g (f.1 q.0)).1 q.1)))

three : {A B C D F G : Type 0} → A ↔ B → C ↔ D → F ↔ G → (A × C × F) ↔ (B × D × G)
three f g h = ((λ p. (f.0 p.0, g.0 p.1, h.0 p.2)), (λ q. (f.1 q.0, g.1 q.1, h.1 q.2)))

same_test : (a b : Bool) → a ≡ b → (b ≡ true) ↔ (a ≡ true)
same_test a b is = ((λ h. is ∙ h), (λ h. sym is ∙ h))

same_leaf : (holding : ℕ → Data → Bool) (t u : LeafType) (f g json : Data) → u ≡ t → g ≡ f → IsLeafOf holding t f json ↔ IsLeafOf holding u g json
same_leaf holding t u f g json a b =
    subst (λ (x : LeafType). IsLeafOf holding t f json ↔ IsLeafOf holding x g json) (sym a) (subst (λ (y : Data). IsLeafOf holding t f json ↔ IsLeafOf holding t y json) (sym b) same)

-- ---- up to the cap

unfoldable Alike : ℕ → ℕ → Type 0
Alike a b = capped a ≡ capped b

sums_below : (c a b x y : ℕ) → min a c ≡ min b c → min x c ≡ min y c → min (a + x) c ≡ min (b + y) c
sums_below c a b x y h k = omega arith

twice_below : (c n : ℕ) → min (min n c) c ≡ min n c
twice_below c n = omega arith

sums_alike : (a b x y : ℕ) → Alike a b → Alike x y → Alike (a + x) (b + y)
unfolding Alike
sums_alike a b x y h k = sums_below (CAP + 1) a b x y h k

equal_alike : (a b : ℕ) → a ≡ b → Alike a b
unfolding Alike
equal_alike a b is = ap capped is

capped_alike : (n : ℕ) → Alike (capped n) n
unfolding Alike
capped_alike n = twice_below (CAP + 1) n

entry_alike : (part : Part) (s : Selected) → Alike (entry_cost part (with_capped s)) (entry_cost part s)
entry_alike types s = equal_alike 0 0 refl
entry_alike fields s = sums_alike s.weight s.weight (capped s.arguments) s.arguments (equal_alike s.weight s.weight refl) (capped_alike s.arguments)

module _ (e : Setting) where
  -- ---- an object type among the possible ones

  same_possible : (Ts : List ℕ) (p : Position) (possible : ObjectTypes) (T : ℕ) → ArePossible e Ts p possible → is_possible T possible ≡ is_among T Ts
  same_possible [] p no_type T h = refl
  same_possible [] p (object_type V w nodes others) T h = absurd h
  same_possible (U ∷ Us) p no_type T h = absurd h
  same_possible (U ∷ Us) p (object_type V w nodes others) T h = ap (λ (x : ℕ). eqb x T || is_possible T others) h.0 ∙ ap (λ (b : Bool). eqb U T || b) (same_possible Us p others T h.3)

  abbrev IsFound : Position → ℕ → ℕ → Nodes → Type 0
  IsFound p T weight nodes = (weight ≡ type_weight e T) × AreNodes e T (keys_at e T p) p nodes

  found : (Ts : List ℕ) (p : Position) (possible : ObjectTypes) (T : ℕ) → ArePossible e Ts p possible → is_among T Ts ≡ true → IsFound p T (weight_of T possible) (nodes_of T possible)
  found [] p possible T h among = absurd (true≢false (sym among))
  found (U ∷ Us) p no_type T h among = absurd h
  found (U ∷ Us) p (object_type V w nodes others) T h among = ⊎_elim
      (λ (here : eqb V T ≡ true). rw (here) (subst (λ (x : ℕ). IsFound p x w nodes) (sym h.0 ∙ eqb-true V T here) (h.1, h.2)))
      (λ (later : eqb V T ≡ false). rw (later) (found Us p others T h.3 (sym (ap (λ (b : Bool). b || is_among T Us) (ap (λ (x : ℕ). eqb x T) (sym h.0) ∙ later)) ∙ among)))
      (cases_Bool (eqb V T))

  -- ---- what fits

  mutual
    pub fit_alike : (form : Form) (place : Place) (p : Position) (plan : Plan) (t : Tree) → IsPlan e place p plan → FitsSelections e form place p t ↔ Fits (holds e.schema) form plan t
    fit_alike form place p plan null h = same
    fit_alike (single nullable) (leaf_place type weight fill) p (leaf_plan t w f) (leaf json) h = joined (same {A = is_null json ≡ false}) (λ is. same_leaf (holds e.schema) type t fill f json h.0 h.2)
    fit_alike (single nullable) (leaf_place type weight fill) p (position possible) (leaf json) h = absurd h
    fit_alike (single nullable) (object_place Ts) p (leaf_plan t w f) (leaf json) h = absurd h
    fit_alike (single nullable) (object_place Ts) p (position possible) (leaf json) h = same
    fit_alike (listed nullable item_nullable) place p plan (leaf json) h = same
    fit_alike (single nullable) place p plan (list_of ts) h = same
    fit_alike (listed nullable item_nullable) place p plan (list_of ts) h = elements_fit_alike item_nullable place p plan ts h
    fit_alike (single nullable) (leaf_place type weight fill) p (leaf_plan t w f) (object T es) h = same
    fit_alike (single nullable) (leaf_place type weight fill) p (position possible) (object T es) h = absurd h
    fit_alike (single nullable) (object_place Ts) p (leaf_plan t w f) (object T es) h = absurd h
    fit_alike (single nullable) (object_place Ts) p (position possible) (object T es) h =
        joined (same_test (is_possible T possible) (is_among T Ts) (same_possible Ts p possible T h)) (λ among. entries_fit_alike T (keys_at e T p) p (nodes_of T possible) es (found Ts p possible T h among).1)
    fit_alike (listed nullable item_nullable) place p plan (object T es) h = same

    entries_fit_alike : (T : ℕ) (ks : List (List ℕ)) (p : Position) (nodes : Nodes) (es : Entries) → AreNodes e T ks p nodes → EntriesFitSelections e T ks p es ↔ EntriesFit (holds e.schema) nodes es
    entries_fit_alike T [] p no_node no_entry h = same
    entries_fit_alike T [] p no_node (entry key t es) h = same
    entries_fit_alike T [] p (node s below others) es h = absurd h
    entries_fit_alike T (k ∷ ks) p no_node es h = absurd h
    entries_fit_alike T (k ∷ ks) p (node s below others) no_entry h = same
    entries_fit_alike T (k ∷ ks) p (node s below others) (entry key t es) h =
        subst (λ (x : Selected). EntriesFitSelections e T (k ∷ ks) p (entry key t es) ↔ EntriesFit (holds e.schema) (node x below others) (entry key t es)) (sym h.0)
        (three (same {A = k ≡ key}) (fit_alike (form_at e T (call_under e T k p)) (place_at e T (call_under e T k p)) (below_key e T k p) below t h.1) (entries_fit_alike T ks p others es h.2))

    elements_fit_alike : (nullable : Bool) (place : Place) (p : Position) (plan : Plan) (ts : Elements) → IsPlan e place p plan → ElementsFitSelections e nullable place p ts ↔ ElementsFit (holds e.schema) nullable plan ts
    elements_fit_alike nullable place p plan no_element h = same
    elements_fit_alike nullable place p plan (element t ts) h = joined (fit_alike (single nullable) place p plan t h) (λ fits. elements_fit_alike nullable place p plan ts h)

  -- ---- what keeps the sizes, where it fits

  mutual
    pub keep_alike : (form : Form) (size : Option ℕ) (place : Place) (p : Position) (plan : Plan) (t : Tree) → IsPlan e place p plan → FitsSelections e form place p t → KeepsSizes e size place p t ↔ SizesKept size plan t
    keep_alike form size place p plan null h fits = same
    keep_alike form size place p plan (leaf json) h fits = same
    keep_alike (single nullable) size place p plan (list_of ts) h fits = absurd fits
    keep_alike (listed nullable item_nullable) size place p plan (list_of ts) h fits = joined (same {A = IsWithin size (count ts)}) (λ within. elements_keep_alike item_nullable place p plan ts h fits)
    keep_alike (single nullable) size (leaf_place type weight fill) p plan (object T es) h fits = absurd fits
    keep_alike (single nullable) size (object_place Ts) p (leaf_plan t w f) (object T es) h fits = absurd h
    keep_alike (single nullable) size (object_place Ts) p (position possible) (object T es) h fits = entries_keep_alike T (keys_at e T p) p (nodes_of T possible) es (found Ts p possible T h fits.0).1 fits.1
    keep_alike (listed nullable item_nullable) size place p plan (object T es) h fits = absurd fits

    entries_keep_alike : (T : ℕ) (ks : List (List ℕ)) (p : Position) (nodes : Nodes) (es : Entries) → AreNodes e T ks p nodes → EntriesFitSelections e T ks p es → EntriesKeepSizes e T ks p es ↔ EntriesKept nodes es
    entries_keep_alike T [] p no_node es h fits = same
    entries_keep_alike T [] p (node s below others) es h fits = absurd h
    entries_keep_alike T (k ∷ ks) p no_node es h fits = absurd h
    entries_keep_alike T (k ∷ ks) p (node s below others) no_entry h fits = same
    entries_keep_alike T (k ∷ ks) p (node s below others) (entry key t es) h fits =
        subst (λ (x : Selected). EntriesKeepSizes e T (k ∷ ks) p (entry key t es) ↔ EntriesKept (node x below others) (entry key t es)) (sym h.0)
        (joined (keep_alike (form_at e T (call_under e T k p)) (size_at e T (call_under e T k p) p.handed) (place_at e T (call_under e T k p)) (below_key e T k p) below t h.1 fits.1) (λ kept. entries_keep_alike T ks p others es h.2 fits.2))

    elements_keep_alike : (nullable : Bool) (place : Place) (p : Position) (plan : Plan) (ts : Elements) → IsPlan e place p plan → ElementsFitSelections e nullable place p ts → ElementsKeepSizes e place p ts ↔ ElementsKept plan ts
    elements_keep_alike nullable place p plan no_element h fits = same
    elements_keep_alike nullable place p plan (element t ts) h fits = joined (keep_alike (single nullable) None place p plan t h fits.0) (λ kept. elements_keep_alike nullable place p plan ts h fits.1)

  -- ---- what it costs, where it fits

  mutual
    cost_alike : (part : Part) (form : Form) (place : Place) (p : Position) (plan : Plan) (t : Tree) → IsPlan e place p plan → FitsSelections e form place p t → Alike (cost part plan t) (response_cost e part place p t)
    cost_alike part form place p plan null h fits = equal_alike 0 0 refl
    cost_alike part (single nullable) (leaf_place type weight fill) p (leaf_plan t w f) (leaf json) h fits = equal_alike (value_cost part w) (value_cost part weight) (ap (value_cost part) h.1)
    cost_alike part (single nullable) (leaf_place type weight fill) p (position possible) (leaf json) h fits = absurd h
    cost_alike part (single nullable) (object_place Ts) p plan (leaf json) h fits = absurd fits
    cost_alike part (listed nullable item_nullable) place p plan (leaf json) h fits = absurd fits
    cost_alike part (single nullable) place p plan (list_of ts) h fits = absurd fits
    cost_alike part (listed nullable item_nullable) place p plan (list_of ts) h fits = elements_cost_alike part item_nullable place p plan ts h fits
    cost_alike part (single nullable) (leaf_place type weight fill) p plan (object T es) h fits = absurd fits
    cost_alike part (single nullable) (object_place Ts) p (leaf_plan t w f) (object T es) h fits = absurd h
    cost_alike part (single nullable) (object_place Ts) p (position possible) (object T es) h fits =
        let of_type : IsFound p T (weight_of T possible) (nodes_of T possible) = found Ts p possible T h fits.0 in
        sums_alike (value_cost part (weight_of T possible)) (value_cost part (type_weight e T)) (planned_entries_cost part (nodes_of T possible) es) (entries_cost e part T (keys_at e T p) p es)
        (equal_alike (value_cost part (weight_of T possible)) (value_cost part (type_weight e T)) (ap (value_cost part) of_type.0))
        (entries_cost_alike part T (keys_at e T p) p (nodes_of T possible) es of_type.1 fits.1)
    cost_alike part (listed nullable item_nullable) place p plan (object T es) h fits = absurd fits

    entries_cost_alike : (part : Part) (T : ℕ) (ks : List (List ℕ)) (p : Position) (nodes : Nodes) (es : Entries) → AreNodes e T ks p nodes → EntriesFitSelections e T ks p es → Alike (planned_entries_cost part nodes es) (entries_cost e part T ks p es)
    entries_cost_alike part T [] p no_node es h fits = equal_alike 0 0 refl
    entries_cost_alike part T [] p (node s below others) es h fits = absurd h
    entries_cost_alike part T (k ∷ ks) p no_node es h fits = absurd h
    entries_cost_alike part T (k ∷ ks) p (node s below others) no_entry h fits = equal_alike 0 0 refl
    entries_cost_alike part T (k ∷ ks) p (node s below others) (entry key t es) h fits =
        let below_cost : ℕ = response_cost e part (place_at e T (call_under e T k p)) (below_key e T k p) t in
        sums_alike (entry_cost part s + cost part below t) (entry_cost part (selected_under e T k p) + below_cost) (planned_entries_cost part others es) (entries_cost e part T ks p es)
        (sums_alike (entry_cost part s) (entry_cost part (selected_under e T k p)) (cost part below t) below_cost
        (subst (λ (x : Selected). Alike (entry_cost part x) (entry_cost part (selected_under e T k p))) (sym h.0) (entry_alike part (selected_under e T k p)))
        (cost_alike part (form_at e T (call_under e T k p)) (place_at e T (call_under e T k p)) (below_key e T k p) below t h.1 fits.1))
        (entries_cost_alike part T ks p others es h.2 fits.2)

    elements_cost_alike : (part : Part) (nullable : Bool) (place : Place) (p : Position) (plan : Plan) (ts : Elements) → IsPlan e place p plan → ElementsFitSelections e nullable place p ts → Alike (planned_elements_cost part plan ts) (elements_cost e part place p ts)
    elements_cost_alike part nullable place p plan no_element h fits = equal_alike 0 0 refl
    elements_cost_alike part nullable place p plan (element t ts) h fits =
        sums_alike (cost part plan t) (response_cost e part place p t) (planned_elements_cost part plan ts) (elements_cost e part place p ts)
        (cost_alike part (single nullable) place p plan t h fits.0) (elements_cost_alike part nullable place p plan ts h fits.1)

  pub costs_capped : (part : Part) (form : Form) (place : Place) (p : Position) (plan : Plan) (t : Tree) → IsPlan e place p plan → FitsSelections e form place p t → capped (cost part plan t) ≡ capped (response_cost e part place p t)
  unfolding Alike
  costs_capped part form place p plan t h fits = cost_alike part form place p plan t h fits

  -- ---- the bound

  -- what is at most a number below the cap
  at_most : (c a b n : ℕ) → n < c → min a c ≡ min b c → a ≤ n → b ≤ n
  at_most c a b n below is le = omega arith

  just : (c a b n : ℕ) → n < c → min a c ≡ min b c → a ≡ n → b ≡ n
  just c a b n below is eq = omega arith

  least : (a b : ℕ) → a ≤ b → b ≤ a → a ≡ b
  least a b le ge = omega arith

  pub bounds_selections : (part : Part) (place : Place) (p : Position) (plan : Plan) (n : ℕ) → IsPlan e place p plan → n < CAP + 1 → IsBound (holds e.schema) part plan n → IsBoundOf e part place p n
  bounds_selections part place p plan n h below bound = record {
    upper = λ t r. at_most (CAP + 1) (cost part plan t) (response_cost e part place p t) n below (costs_capped part (single true) place p plan t h r.0)
        (bound.upper t ((fit_alike (single true) place p plan t h).0 r.0, (keep_alike (single true) None place p plan t h r.0).0 r.1));
    attained =
        let t : Tree = bound.attained.0 in
        let fits : FitsSelections e (single true) place p t = (fit_alike (single true) place p plan t h).1 bound.attained.1.0 in
        (t, (fits, (keep_alike (single true) None place p plan t h fits).1 bound.attained.1.1), just (CAP + 1) (cost part plan t) (response_cost e part place p t) n below (costs_capped part (single true) place p plan t h fits) bound.attained.2);
  }

  below_next : (c n : ℕ) → n ≤ c → n < c + 1
  below_next c n within = omega arith

  pub bound_of_selections : (part : Part) (place : Place) (p : Position) (plan : Plan) (n : ℕ) → IsPlan e place p plan → IsSound (holds e.schema) plan → n ≤ CAP → IsBoundOf e part place p n ↔ (greatest_cost part plan ≡ n)
  bound_of_selections part place p plan n h sound within =
      let below : n < CAP + 1 = below_next CAP n within in (
        λ bound.
            let greatest : IsBound (holds e.schema) part plan (greatest_cost part plan) = bound_is (holds e.schema) part plan sound in
            let g : Tree = greatest.attained.0 in
            let g_fits : FitsSelections e (single true) place p g = (fit_alike (single true) place p plan g h).1 greatest.attained.1.0 in
            let most : response_cost e part place p g ≤ n = bound.upper g (g_fits, (keep_alike (single true) None place p plan g h g_fits).1 greatest.attained.1.1) in
            let g_costs : cost part plan g ≤ n = at_most (CAP + 1) (response_cost e part place p g) (cost part plan g) n below (sym (costs_capped part (single true) place p plan g h g_fits)) most in
            let t : Tree = bound.attained.0 in
            let t_costs : cost part plan t ≡ n = just (CAP + 1) (response_cost e part place p t) (cost part plan t) n below (sym (costs_capped part (single true) place p plan t h bound.attained.1.0)) bound.attained.2 in
            let t_most : cost part plan t ≤ greatest_cost part plan = greatest.upper t ((fit_alike (single true) place p plan t h).0 bound.attained.1.0, (keep_alike (single true) None place p plan t h bound.attained.1.0).0 bound.attained.1.1) in
            least (greatest_cost part plan) n (subst (λ (x : ℕ). x ≤ n) greatest.attained.2 g_costs) (subst (λ (x : ℕ). x ≤ greatest_cost part plan) t_costs t_most),
        λ is. bounds_selections part place p plan n h below (subst (λ (x : ℕ). IsBound (holds e.schema) part plan x) is (bound_is (holds e.schema) part plan sound)),
      )
