-- Positions whose selections have the same marks have the same nodes, the same faults and the same plan.
use Rattle.std.proofs.Common.{◌≡◌, inl, inr, ⊎_elim, ℕ, zero, suc, List, [], ◌∷◌, ◌++◌, map, filter, flat_map, Bool, true, false, not, bytes_eq, Option, Some, None, refl, sym, ap, ◌∙◌}
use Rattle.std.proofs.lemmas.Bool.{cases_Bool}
use Rattle.std.proofs.lemmas.Slice.Eq.{bytes_eq-Decides}
use Rattle.std.specs.List.{list_any}
use Rattle.std.specs.Prelude.{option_map, ◌||◌}
use Rattle.gql_base.specs.parts.Values.{NamedValue}
use Rattle.response_model.specs.Plan.{Selected, Plan, leaf_plan, position, ObjectTypes, no_type, object_type, Nodes, no_node, node}
use Rattle.schema_rules.specs.First.{or_else, first_of}
use Rattle.document_rules.specs.Parts.{FragmentData}
use Rattle.document_rules.specs.Sites.{Meaning, no_position, no_such_field, name_of_type, known_field, meaning_on}
use Rattle.plan_model.specs.SelectedFields.{Setting, FieldCall, HandedSize, Place, leaf_place, object_place, types_of, place_at, arguments_at, arguments_of, if_coerced, refusal_of, form_at, size_at, size_answer_at, weight_at, cost_at, hands_at}
use Rattle.plan_model.specs.Collecting.{CollectedField, WrittenSelections, fields_written, fields_spread, collected, nesting}
use Rattle.plan_model.specs.SameArguments.{same_arguments}
use Rattle.plan_model.specs.Merging.{Position, keys_from, keys_of, has_key, first_call, selections_below, asks, selected_by, call_under, below_key}
use Rattle.plan_model.specs.Plans.{with_capped, type_weight}
use Rattle.plan_model.specs.Visits.{refused_argument, argument_fault, fault_of, Visit, visits_of, visits_of_key, visits_of_type, too_deep_at, deepest_visits, visits, planned_nodes, planned_types, planned_at, nothing_planned, planned}
use Rattle.plan_model.specs.GivenAlike.{AreGivenSame}
use Rattle.plan_model.specs.Likeness.{HasLike, Thins, LooksSame}
use Rattle.plan_model.specs.Numberings.{HasMark, IsItem, HaveMarks}
use Rattle.plan_model.specs.Shortening.{with_fragments}
use Rattle.plan_model.proofs.GivenArguments.{coerced_same}
use Rattle.plan_model.proofs.LikeLists.{same_any_like, same_first_like, filtered_like, mapped_like, flattened_like}

-- Of what is collected it doesn't matter which fragments there are.
abbrev pub bare : Setting → Setting
bare e = with_fragments e []

-- ---- a field of the same name that is given the same

module _ (e : Setting) (T : ℕ) where
  same_by_meaning : (m : Meaning) (written other : List NamedValue) → AreGivenSame e.values written other → arguments_of e m written ≡ arguments_of (bare e) m other
  same_by_meaning (known_field field) written other given = coerced_same e.schema field e.values written other given
  same_by_meaning name_of_type written other given = refl
  same_by_meaning no_such_field written other given = refl
  same_by_meaning no_position written other given = refl

  -- calls of one name whose arguments come to the same
  pub record IsSameCall (c d : FieldCall) : Type 0 where
    pub name : c.name ≡ d.name
    pub arguments : arguments_at e T c ≡ arguments_at (bare e) T d

  arguments_alike : (c d : FieldCall) → c.name ≡ d.name → AreGivenSame e.values c.arguments d.arguments → arguments_at e T c ≡ arguments_at (bare e) T d
  unfolding arguments_at
  arguments_alike c d name given = ap (λ (n : List ℕ). arguments_of e (meaning_on e.schema (Some T) n) c.arguments) name ∙ same_by_meaning (meaning_on e.schema (Some T) d.name) c.arguments d.arguments given

  same_call : (f g : CollectedField) → LooksSame e f g → IsSameCall f.call g.call
  same_call f g like = record { name = like.name; arguments = arguments_alike f.call g.call like.name like.given }

  module _ (c d : FieldCall) (same : IsSameCall c d) where
    same_form : form_at e T c ≡ form_at (bare e) T d
    unfolding form_at
    same_form = rw (same.name) refl

    pub same_place : place_at e T c ≡ place_at (bare e) T d
    unfolding place_at
    same_place = rw (same.name) refl

    same_size_answer : (handed : HandedSize) → size_answer_at e T c handed ≡ size_answer_at (bare e) T d handed
    unfolding size_answer_at
    same_size_answer handed = rw (same.arguments) (rw (same_form) (rw (same.name) refl))

    same_size : (handed : HandedSize) → size_at e T c handed ≡ size_at (bare e) T d handed
    unfolding size_at
    same_size handed = rw (same_form) (rw (same_size_answer handed) refl)

    pub same_hands : hands_at e T c ≡ hands_at (bare e) T d
    unfolding hands_at
    same_hands = rw (same_size_answer None) (rw (same.name) refl)

    same_weight : weight_at e T c ≡ weight_at (bare e) T d
    unfolding weight_at
    same_weight = rw (same.name) refl

    same_cost : cost_at e T c ≡ cost_at (bare e) T d
    unfolding cost_at
    same_cost = rw (same.arguments) (rw (same.name) refl)

-- ---- keys

abbrev IsKeySeen : List (List ℕ) → CollectedField → Type 0
IsKeySeen seen f = list_any (bytes_eq f.key) seen ≡ true

own_key : (key : List ℕ) (seen : List (List ℕ)) → list_any (bytes_eq key) (key ∷ seen) ≡ true
own_key key seen = rw ((bytes_eq-Decides key key).1 refl) refl

still_seen : (key : List ℕ) (seen : List (List ℕ)) (f : CollectedField) → IsKeySeen seen f → IsKeySeen (key ∷ seen) f
still_seen key seen f h = ⊎_elim
    (λ (is : bytes_eq f.key key ≡ true). rw (is) refl)
    (λ (is : bytes_eq f.key key ≡ false). rw (is) h)
    (cases_Bool (bytes_eq f.key key))

module _ {I : Type 0} (field : I → CollectedField) (R : CollectedField → I → Type 0) (of_key : (f : CollectedField) (i : I) → R f i → f.key ≡ (field i).key) where
  abbrev AreKeysSeen : List (List ℕ) → List I → Type 0
  AreKeysSeen seen s = (f : CollectedField) → HasLike R s f → IsKeySeen seen f

  keys_beside : (seen : List (List ℕ)) (s : List I) (xs : List CollectedField) (is : List I) → AreKeysSeen seen s → Thins R s xs is → keys_from seen xs ≡ keys_from seen (map field is)
  keys_beside seen s [] [] known t = refl
  keys_beside seen s [] (i ∷ is) known t = absurd t
  keys_beside seen s (x ∷ xs) [] known t = rw (known x t.0) (keys_beside seen s xs [] known t.1)
  keys_beside seen s (x ∷ xs) (i ∷ is) known (inl stays) = rw (of_key x i stays.0) (⊎_elim
      (λ (was : list_any (bytes_eq (field i).key) seen ≡ true). rw (was) (keys_beside seen (i ∷ s) xs is (λ f h. ⊎_elim (λ (here : R f i). ap (λ (key : List ℕ). list_any (bytes_eq key) seen) (of_key f i here) ∙ was) (λ later. known f later) h) stays.1))
      (λ (was : list_any (bytes_eq (field i).key) seen ≡ false). rw (was) (ap (λ (keys : List (List ℕ)). (field i).key ∷ keys)
      (keys_beside ((field i).key ∷ seen) (i ∷ s) xs is (λ f h. ⊎_elim (λ (here : R f i). ap (λ (key : List ℕ). list_any (bytes_eq key) ((field i).key ∷ seen)) (of_key f i here) ∙ own_key (field i).key seen) (λ later. still_seen (field i).key seen f (known f later)) h) stays.1)))
      (cases_Bool (list_any (bytes_eq (field i).key) seen)))
  keys_beside seen s (x ∷ xs) (i ∷ is) known (inr goes) = rw (known x goes.0) (keys_beside seen s xs (i ∷ is) known goes.1)

  pub same_keys_like : (xs : List CollectedField) (is : List I) → Thins R [] xs is → keys_of xs ≡ keys_of (map field is)
  same_keys_like xs is t = keys_beside [] [] xs is (λ f h. absurd h) t

any_mapped : {A B : Type 0} (f : A → B) (test : B → Bool) (xs : List A) → list_any test (map f xs) ≡ list_any (λ x. test (f x)) xs
any_mapped f test [] = refl
any_mapped f test (x ∷ xs) = ap (λ (b : Bool). test (f x) || b) (any_mapped f test xs)

first_mapped : {A B F : Type 0} (f : A → B) (test : B → Option F) (xs : List A) → first_of test (map f xs) ≡ first_of (λ x. test (f x)) xs
first_mapped f test [] = refl
first_mapped f test (x ∷ xs) = ap (λ o. or_else (test (f x)) o) (first_mapped f test xs)

-- ---- the fields of one key, and what is listed for them

module _ {I : Type 0} (e : Setting) (T : ℕ) (field : I → CollectedField) (R : CollectedField → I → Type 0) (like : (f : CollectedField) (i : I) → R f i → LooksSame e f (field i)) (xs : List CollectedField) (is : List I) (t : Thins R [] xs is) where
  abbrev listed : List CollectedField
  listed = map field is

  first_same_call : (xs : List CollectedField) (is : List I) → Thins R [] xs is → IsSameCall e T (first_call xs) (first_call (map field is))
  unfolding arguments_at
  first_same_call [] [] t = record { name = refl; arguments = same_by_meaning e T (meaning_on e.schema (Some T) []) [] [] refl }
  first_same_call [] (i ∷ is) t = absurd t
  first_same_call (x ∷ xs) [] t = absurd t.0
  first_same_call (x ∷ xs) (i ∷ is) (inl stays) = same_call e T x (field i) (like x i stays.0)
  first_same_call (x ∷ xs) (i ∷ is) (inr goes) = absurd goes.0

  pub same_first : IsSameCall e T (first_call xs) (first_call listed)
  same_first = first_same_call xs is t

  any_same : (test other : CollectedField → Bool) → ((f g : CollectedField) → LooksSame e f g → test f ≡ other g) → list_any test xs ≡ list_any other listed
  any_same test other alike = same_any_like R test (λ i. other (field i)) (λ f i r. alike f (field i) (like f i r)) xs is t ∙ sym (any_mapped field other is)

  pub same_selected_by : (key : List ℕ) (handed : HandedSize) → selected_by e T key handed xs ≡ selected_by (bare e) T key handed listed
  same_selected_by key handed =
      rw (same_first.name) (rw (any_same (asks e) (asks (bare e)) (λ f g l. l.asked)) (rw (same_form e T (first_call xs) (first_call listed) same_first) (rw (same_size e T (first_call xs) (first_call listed) same_first handed) (rw (same_weight e T (first_call xs) (first_call listed) same_first) (rw (same_cost e T (first_call xs) (first_call listed) same_first) refl)))))

  abbrev has_other_name : List ℕ → CollectedField → Bool
  has_other_name name f = not (bytes_eq f.call.name name)

  abbrev has_others : Setting → Setting → FieldCall → CollectedField → Bool
  has_others d u c f = not (same_arguments (if_coerced (arguments_at d T c)) (if_coerced (arguments_at u T f.call)))

  same_names : list_any (has_other_name (first_call xs).name) xs ≡ list_any (has_other_name (first_call listed).name) listed
  same_names = any_same (has_other_name (first_call xs).name) (has_other_name (first_call xs).name) (λ f g l. ap (λ (n : List ℕ). not (bytes_eq n (first_call xs).name)) l.name) ∙ ap (λ (n : List ℕ). list_any (has_other_name n) listed) same_first.name

  same_arguments_of : list_any (has_others e e (first_call xs)) xs ≡ list_any (has_others (bare e) (bare e) (first_call listed)) listed
  same_arguments_of = any_same (has_others e e (first_call xs)) (has_others e (bare e) (first_call xs)) (λ f g l. ap (λ r. not (same_arguments (if_coerced (arguments_at e T (first_call xs))) (if_coerced r))) (same_call e T f g l).arguments)
      ∙ ap (λ r. list_any (λ (f : CollectedField). not (same_arguments (if_coerced r) (if_coerced (arguments_at (bare e) T f.call)))) listed) same_first.arguments

  same_refused : first_of (argument_fault e T) xs ≡ first_of (argument_fault (bare e) T) listed
  same_refused = same_first_like R (argument_fault e T) (λ i. argument_fault (bare e) T (field i)) (λ f i r. ap (λ a. option_map refused_argument (refusal_of a)) (same_call e T f (field i) (like f i r)).arguments) xs is t ∙ sym (first_mapped field (argument_fault (bare e) T) is)

  pub same_fault_by : (handed : HandedSize) → fault_of e T handed xs ≡ fault_of (bare e) T handed listed
  same_fault_by handed = rw (same_names) (rw (same_refused) (rw (same_arguments_of) (rw (same_size_answer e T (first_call xs) (first_call listed) same_first handed) (rw (same_place e T (first_call xs) (first_call listed) same_first) refl))))

-- ---- positions, by marks

flat_same : {A B : Type 0} (f g : A → List B) (xs : List A) → ((x : A) → f x ≡ g x) → flat_map f xs ≡ flat_map g xs
flat_same f g [] h = refl
flat_same f g (x ∷ xs) h = ap (λ ys. ys ++ flat_map f xs) (h x) ∙ ap (λ ys. g x ++ ys) (flat_same f g xs h)

module _ {K : Type 0} (items : K → ℕ → List (CollectedField × K)) where
  abbrev field_of_item : CollectedField × K → CollectedField
  field_of_item i = i.0

  abbrev mark_of_item : CollectedField × K → K
  mark_of_item i = i.1

  module _ (T : ℕ) where
    abbrev items_at : List K → List (CollectedField × K)
    items_at ks = flat_map (λ k. items k T) ks

    abbrev items_under : List ℕ → List K → List (CollectedField × K)
    items_under key ks = filter (λ i. has_key key i.0) (items_at ks)

    abbrev listed_under : List ℕ → List K → List CollectedField
    listed_under key ks = map field_of_item (items_under key ks)

    abbrev keys_listed : List K → List (List ℕ)
    keys_listed ks = keys_of (map field_of_item (items_at ks))

    abbrev call_listed : List ℕ → List K → FieldCall
    call_listed key ks = first_call (listed_under key ks)

    -- the marks of what stands below a key
    abbrev marks_under : List ℕ → List K → List K
    marks_under key ks = map mark_of_item (items_under key ks)

  -- ---- what is visited and what is planned at a position with these marks

  abbrev pub ListedVisits : Type 0
  ListedVisits = List ℕ → HandedSize → List K → List Visit

  abbrev pub ListedPlan : Type 0
  ListedPlan = Place → HandedSize → List K → Plan

  module _ (b : Setting) where
    abbrev listed_key : ListedVisits → HandedSize → List K → ℕ → List ℕ → List Visit
    listed_key deeper handed ks T key = visits_of key (fault_of b T handed (listed_under T key ks)) (deeper (types_of (place_at b T (call_listed T key ks))) (hands_at b T (call_listed T key ks)) (marks_under T key ks))

    abbrev listed_type : ListedVisits → HandedSize → List K → ℕ → List Visit
    listed_type deeper handed ks T = flat_map (listed_key deeper handed ks T) (keys_listed T ks)

    unfoldable pub listed_visits : ℕ → ListedVisits
    listed_visits zero Ts handed ks = flat_map (λ T. map too_deep_at (keys_listed T ks)) Ts
    listed_visits (suc levels) Ts handed ks = flat_map (listed_type (listed_visits levels) handed ks) Ts

    abbrev listed_nodes : ListedPlan → HandedSize → List K → ℕ → List (List ℕ) → Nodes
    listed_nodes deeper handed ks T [] = no_node
    listed_nodes deeper handed ks T (key ∷ keys) = node (with_capped (selected_by b T key handed (listed_under T key ks))) (deeper (place_at b T (call_listed T key ks)) (hands_at b T (call_listed T key ks)) (marks_under T key ks)) (listed_nodes deeper handed ks T keys)

    abbrev listed_types : ListedPlan → HandedSize → List K → List ℕ → ObjectTypes
    listed_types deeper handed ks [] = no_type
    listed_types deeper handed ks (T ∷ Ts) = object_type T (type_weight b T) (listed_nodes deeper handed ks T (keys_listed T ks)) (listed_types deeper handed ks Ts)

    abbrev listed_at : ListedPlan → Place → HandedSize → List K → Plan
    listed_at deeper (leaf_place type weight fill) handed ks = leaf_plan type weight fill
    listed_at deeper (object_place Ts) handed ks = position (listed_types deeper handed ks Ts)

    unfoldable pub listed_plan : ℕ → ListedPlan
    listed_plan zero place handed ks = listed_at (λ place handed ks. position no_type) place handed ks
    listed_plan (suc levels) place handed ks = listed_at (listed_plan levels) place handed ks

module _ {K : Type 0} (e : Setting) (items : K → ℕ → List (CollectedField × K)) where
  module _ (T : ℕ) (n : ℕ) (selections : List WrittenSelections) (ks : List K) (marked : HaveMarks e items (suc n) selections ks) where
    fields_listed : Thins (IsItem e items n) [] (collected e T selections) (items_at items T ks)
    unfolding collected
    fields_listed = flattened_like (HasMark e items (suc n)) (IsItem e items n) (fields_written e T (fields_spread e T (nesting e))) (λ k. items k T) (λ w k h. h T) [] selections ks marked

    same_keys_listed : keys_of (collected e T selections) ≡ keys_listed items T ks
    same_keys_listed = same_keys_like (field_of_item items) (IsItem e items n) (λ f i r. r.0.key) (collected e T selections) (items_at items T ks) fields_listed

    module _ (key : List ℕ) where
      abbrev under : List CollectedField
      under = filter (has_key key) (collected e T selections)

      under_listed : Thins (IsItem e items n) [] under (items_under items T key ks)
      under_listed = filtered_like (IsItem e items n) (has_key key) (λ i. has_key key i.0) (λ f i r. ap (λ (k : List ℕ). bytes_eq k key) r.0.key) [] (collected e T selections) (items_at items T ks) fields_listed

      same_call_listed : IsSameCall e T (first_call under) (call_listed items T key ks)
      same_call_listed = same_first e T (field_of_item items) (IsItem e items n) (λ f i r. r.0) under (items_under items T key ks) under_listed

      same_fault_listed : (handed : HandedSize) → fault_of e T handed under ≡ fault_of (bare e) T handed (listed_under items T key ks)
      same_fault_listed = same_fault_by e T (field_of_item items) (IsItem e items n) (λ f i r. r.0) under (items_under items T key ks) under_listed

      same_selected_listed : (handed : HandedSize) → selected_by e T key handed under ≡ selected_by (bare e) T key handed (listed_under items T key ks)
      same_selected_listed = same_selected_by e T (field_of_item items) (IsItem e items n) (λ f i r. r.0) under (items_under items T key ks) under_listed key

      below_listed : HaveMarks e items n (map (selections_below e) under) (marks_under items T key ks)
      below_listed = mapped_like (IsItem e items n) (HasMark e items n) (selections_below e) (mark_of_item items) (λ f i r. r.1) [] under (items_under items T key ks) under_listed

  abbrev IsAt : ℕ → Position → List K → Type 0
  IsAt n p ks = HaveMarks e items n p.selections ks

  module _ (n : ℕ) (seen : List ℕ → Position → List Visit) (listed : ListedVisits items) (deeper : (Ts : List ℕ) (p : Position) (ks : List K) → IsAt n p ks → seen Ts p ≡ listed Ts p.handed ks) where
    key_listed : (p : Position) (ks : List K) → IsAt (suc n) p ks → (T : ℕ) (key : List ℕ) → visits_of_key e seen p T key ≡ listed_key items (bare e) listed p.handed ks T key
    key_listed p ks is T key =
        rw (same_fault_listed T n p.selections ks is key p.handed)
        (rw (deeper (types_of (place_at e T (call_under e T key p))) (below_key e T key p) (marks_under items T key ks) (below_listed T n p.selections ks is key))
        (rw (same_place e T (call_under e T key p) (call_listed items T key ks) (same_call_listed T n p.selections ks is key))
        (rw (same_hands e T (call_under e T key p) (call_listed items T key ks) (same_call_listed T n p.selections ks is key)) refl)))

    type_listed : (p : Position) (ks : List K) → IsAt (suc n) p ks → (T : ℕ) → visits_of_type e seen p T ≡ listed_type items (bare e) listed p.handed ks T
    type_listed p ks is T =
        ap (λ (keys : List (List ℕ)). flat_map (visits_of_key e seen p T) keys) (same_keys_listed T n p.selections ks is)
        ∙ flat_same (visits_of_key e seen p T) (listed_key items (bare e) listed p.handed ks T) (keys_listed items T ks) (key_listed p ks is T)

  pub visits_listed : (levels : ℕ) (Ts : List ℕ) (p : Position) (ks : List K) → IsAt (suc levels) p ks → visits e levels Ts p ≡ listed_visits items (bare e) levels Ts p.handed ks
  unfolding visits listed_visits
  visits_listed zero Ts p ks is = flat_same (deepest_visits e p) (λ T. map too_deep_at (keys_listed items T ks)) Ts (λ T. ap (λ (keys : List (List ℕ)). map too_deep_at keys) (same_keys_listed T 0 p.selections ks is))
  visits_listed (suc levels) Ts p ks is = flat_same (visits_of_type e (visits e levels) p) (listed_type items (bare e) (listed_visits items (bare e) levels) p.handed ks) Ts (type_listed (suc levels) (visits e levels) (listed_visits items (bare e) levels) (visits_listed levels) p ks is)

  module _ (n : ℕ) (made : Place → Position → Plan) (listed : ListedPlan items) (deeper : (place : Place) (p : Position) (ks : List K) → IsAt n p ks → made place p ≡ listed place p.handed ks) where
    nodes_listed : (p : Position) (ks : List K) → IsAt (suc n) p ks → (T : ℕ) (keys : List (List ℕ)) → planned_nodes e made p T keys ≡ listed_nodes items (bare e) listed p.handed ks T keys
    nodes_listed p ks is T [] = refl
    nodes_listed p ks is T (key ∷ keys) =
        let c : FieldCall = call_under e T key p in
        let d : FieldCall = call_listed items T key ks in
        let same : IsSameCall e T c d = same_call_listed T n p.selections ks is key in
        let below_p : Position = below_key e T key p in
        let below : List K = marks_under items T key ks in
        let others_p : Nodes = planned_nodes e made p T keys in
        let chosen : Selected = with_capped (selected_by (bare e) T key p.handed (listed_under items T key ks)) in
        ap (λ (s : Selected). node (with_capped s) (made (place_at e T c) below_p) others_p) (same_selected_listed T n p.selections ks is key p.handed)
        ∙ (ap (λ (plan : Plan). node chosen plan others_p) (deeper (place_at e T c) below_p below (below_listed T n p.selections ks is key))
        ∙ (ap (λ (place : Place). node chosen (listed place (hands_at e T c) below) others_p) (same_place e T c d same)
        ∙ (ap (λ (h : HandedSize). node chosen (listed (place_at (bare e) T d) h below) others_p) (same_hands e T c d same)
        ∙ ap (λ (others : Nodes). node chosen (listed (place_at (bare e) T d) (hands_at (bare e) T d) below) others) (nodes_listed p ks is T keys))))

    types_listed : (p : Position) (ks : List K) → IsAt (suc n) p ks → (Ts : List ℕ) → planned_types e made p Ts ≡ listed_types items (bare e) listed p.handed ks Ts
    types_listed p ks is [] = refl
    types_listed p ks is (T ∷ Ts) =
        ap (λ (keys : List (List ℕ)). object_type T (type_weight e T) (planned_nodes e made p T keys) (planned_types e made p Ts)) (same_keys_listed T n p.selections ks is)
        ∙ (ap (λ (nodes : Nodes). object_type T (type_weight e T) nodes (planned_types e made p Ts)) (nodes_listed p ks is T (keys_listed items T ks))
        ∙ ap (λ (others : ObjectTypes). object_type T (type_weight e T) (listed_nodes items (bare e) listed p.handed ks T (keys_listed items T ks)) others) (types_listed p ks is Ts))

    place_listed : (place : Place) (p : Position) (ks : List K) → IsAt (suc n) p ks → planned_at e made place p ≡ listed_at items (bare e) listed place p.handed ks
    place_listed (leaf_place type weight fill) p ks is = refl
    place_listed (object_place Ts) p ks is = ap position (types_listed p ks is Ts)

  pub planned_listed : (levels : ℕ) (place : Place) (p : Position) (ks : List K) → IsAt (suc levels) p ks → planned e levels place p ≡ listed_plan items (bare e) levels place p.handed ks
  unfolding planned listed_plan
  planned_listed zero place p ks is = place_listed zero nothing_planned (λ place handed ks. position no_type) (λ place p ks is. refl) place p ks is
  planned_listed (suc levels) place p ks is = place_listed (suc levels) (planned e levels) (listed_plan items (bare e) levels) (planned_listed levels) place p ks is

-- ---- two positions of the same marks, beside fragments of their own

module _ {K : Type 0} (e : Setting) (fragments : List FragmentData) (items : K → ℕ → List (CollectedField × K)) (levels : ℕ) (p q : Position) (marks : List K)
    (of_p : HaveMarks e items (suc levels) p.selections marks) (of_q : HaveMarks (with_fragments e fragments) items (suc levels) q.selections marks) (handed : p.handed ≡ q.handed) where
  pub same_visits_marked : (Ts : List ℕ) → visits e levels Ts p ≡ visits (with_fragments e fragments) levels Ts q
  same_visits_marked Ts = visits_listed e items levels Ts p marks of_p
      ∙ (ap (λ (h : HandedSize). listed_visits items (bare e) levels Ts h marks) handed ∙ sym (visits_listed (with_fragments e fragments) items levels Ts q marks of_q))

  pub same_plan_marked : (place : Place) → planned e levels place p ≡ planned (with_fragments e fragments) levels place q
  same_plan_marked place = planned_listed e items levels place p marks of_p
      ∙ (ap (λ (h : HandedSize). listed_plan items (bare e) levels place h marks) handed ∙ sym (planned_listed (with_fragments e fragments) items levels place q marks of_q))
