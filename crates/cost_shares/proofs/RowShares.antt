-- The pass over the rows of a plan finds what each node adds to the filled response.
use Rattle.std.proofs.Common.{◌≡◌, ⊎_elim, ℕ, zero, suc, ◌+◌, ◌*◌, ◌<◌, ◌≤◌, List, [], ◌∷◌, ◌++◌, length, Bool, true, false, cond, eqb, ◌||◌, Option, Some, None, refl, sym, ap, ap₂, ◌∙◌, subst, arith, suc-mul, mul_comm, replicate}
use Rattle.std.specs.List.{flat_map}
use Rattle.std.proofs.lemmas.Bool.{cases_Bool}
use Rattle.std.proofs.lemmas.List.{append_assoc, length-replicate, replicate-append-replicate}
use Rattle.std.proofs.lemmas.List.Folds.{sum_by-replicate}
use Rattle.cost_num.specs.declared.TheConstants.{CAP}
use Rattle.serde_json.specs.Data.{Data}
use Rattle.response_model.specs.Plan.{Form, single, listed, Selected, Plan, leaf_plan, position, ObjectTypes, no_type, object_type, Nodes, no_node, node, is_possible, weight_of, nodes_of}
use Rattle.response_model.specs.Response.{Tree, list_of, object, Entries, entry}
use Rattle.response_model.specs.Cost.{Part, value_cost, entry_cost}
use Rattle.response_model.specs.Bound.{greatest_in, greatest_cost, greatest_of_nodes, IsSound, TypesSound, NodesSound}
use Rattle.response_model.specs.Filled.{repeated, filled_in, filled, filled_type, filled_object, filled_entries}
use Rattle.response_model.proofs.Lookup.{types_differ}
use Rattle.plan_table.specs.Rows.{Row, types_in, below_in, rows_below, rows_of_types, rows_of_nodes}
use Rattle.plan_table.specs.Totals.{totals}
use Rattle.plan_table.proofs.Places.{put_here, put_elsewhere, below_apart}
use Rattle.plan_table.proofs.RowTotals.{ClearBelow, row_at, one_deeper, types_added, nodes_added}
use Rattle.static_cost.specs.Choices.{picked, choice_at, choices}
use Rattle.static_cost.proofs.PickedTypes.{types_picked, chosen_is_filled, filled_object_is, nodes_at_most}
use Rattle.cost_shares.specs.Shares.{single_values, values_of_items, weight_of_value, values_add, entries_in, first_value, other_entries, each_node, each_of_types, each_of_nodes, NodeShare, node_share}
use Rattle.cost_shares.specs.Examples.{share}
use Rattle.cost_shares.specs.Passing.{Standing, times_of, values_of, weight_among, weight_below, row_share, standing_behind, row_shares}

-- ---- many times the same

same_times : {A B : Type 0} (f : A → List B) (n : ℕ) (x : A) (y : B) → (0 < n → f x ≡ y ∷ []) → flat_map f (replicate n x) ≡ replicate n y
same_times f zero x y one = refl
same_times f (suc n) x y one = ap₂ (λ (xs : List _) (ys : List _). xs ++ ys) (one (omega arith)) (same_times f n x y (λ (h : 0 < n). one (omega arith)))

none_times : {A B : Type 0} (f : A → List B) (n : ℕ) (x : A) → f x ≡ [] → flat_map f (replicate n x) ≡ []
none_times f zero x none = refl
none_times f (suc n) x none = ap₂ (λ (xs : List _) (ys : List _). xs ++ ys) none (none_times f n x none)

items_once : (m : ℕ) (x : Tree) → single_values x ≡ x ∷ [] → values_of_items (repeated m x) ≡ replicate m x
items_once zero x one = refl
items_once (suc m) x one = ap₂ (λ (xs ys : List Tree). xs ++ ys) one (items_once m x one)

many_lists : (n m : ℕ) (x : Tree) → single_values x ≡ x ∷ [] → flat_map single_values (replicate n (list_of (repeated m x))) ≡ replicate (n * m) x
many_lists zero m x one = let none : 0 ≡ 0 * m = omega arith in ap (λ (k : ℕ). replicate k x) none
many_lists (suc n) m x one =
    ap₂ (λ (xs ys : List Tree). xs ++ ys) (items_once m x one) (many_lists n m x one)
    ∙ replicate-append-replicate m (n * m) x
    ∙ ap (λ (k : ℕ). replicate k x) one_more
  where
    one_more : m + n * m ≡ suc n * m
    one_more = omega (arith, suc-mul n m)

-- The single values of entries whose values are filled alike.
filled_values : (form : Form) (size : Option ℕ) (n : ℕ) (x : Tree) → single_values x ≡ x ∷ [] → flat_map single_values (replicate n (filled_in form size x)) ≡ replicate (greatest_in form size n) x
filled_values (single nullable) size n x one = same_times single_values n x x (λ (h : 0 < n). one)
filled_values (listed nullable item_nullable) None n x one = many_lists n 0 x one ∙ (let none : n * 0 ≡ 0 = omega arith in ap (λ (k : ℕ). replicate k x) none)
filled_values (listed nullable item_nullable) (Some size) n x one = many_lists n size x one ∙ (let turned : n * size ≡ size * n = mul_comm n size in ap (λ (k : ℕ). replicate k x) turned)

filled_single : (part : Part) (plan : Plan) → single_values (filled part plan) ≡ filled part plan ∷ []
filled_single part (leaf_plan type w fill) = refl
filled_single part (position possible) = refl

-- An item that is there costs at most what the list does.
item_counted : (form : Form) (size : Option ℕ) (n each : ℕ) → 0 < greatest_in form size n → greatest_in form size each ≤ CAP → each ≤ CAP
item_counted (single nullable) size n each some counted = counted
item_counted (listed nullable item_nullable) None n each some counted = absurd (omega arith)
item_counted (listed nullable item_nullable) (Some zero) n each some counted = absurd (omega arith)
item_counted (listed nullable item_nullable) (Some (suc m)) n each some counted = omega (arith, suc-mul m each)

some_entry : (form : Form) (size : Option ℕ) (n : ℕ) → 0 < greatest_in form size n → 0 < n
some_entry (single nullable) size n some = some
some_entry (listed nullable item_nullable) None n some = absurd (omega arith)
some_entry (listed nullable item_nullable) (Some m) zero some = absurd (omega arith)
some_entry (listed nullable item_nullable) (Some m) (suc n) some = omega arith

-- ---- shares of rows, with their own choices

abbrev pub own_shares : Part → Standing → List Row → List NodeShare
own_shares part t rows = row_shares part t rows (choices part rows)

-- The same stands at d and above.
abbrev pub SameDownTo : ℕ → Standing → Standing → Type 0
SameDownTo d t u = (e : ℕ) → e ≤ d → (t.objects e ≡ u.objects e) × (t.types e ≡ u.types e)

-- The rows in front have these shares, and nothing that stands at d or above changes.
pub record Passed (part : Part) (d : ℕ) (shares : List NodeShare) (t : Standing) (front rows : List Row) : Type 0 where
  pub behind : Standing
  pub same : SameDownTo d behind t
  pub found : own_shares part t (front ++ rows) ≡ shares ++ own_shares part behind rows

none_passed : (part : Part) (d : ℕ) (t : Standing) (rows : List Row) → Passed part d [] t [] rows
none_passed part d t rows = record { behind = t; same = λ e less. (refl, refl); found = refl }

both_passed : (part : Part) (d f : ℕ) (a b : List NodeShare) (t : Standing) (xs ys rows : List Row) → f ≤ d → (p : Passed part d a t xs (ys ++ rows)) → Passed part f b p.behind ys rows → Passed part f (a ++ b) t (xs ++ ys) rows
both_passed part d f a b t xs ys rows less p q = record {
  behind = q.behind;
  same = λ e under. ((q.same e under).0 ∙ (p.same e (omega arith)).0, (q.same e under).1 ∙ (p.same e (omega arith)).1);
  found = ap (λ (zs : List Row). own_shares part t zs) (append_assoc xs ys rows) ∙ p.found ∙ ap (λ (zs : List NodeShare). a ++ zs) q.found ∙ sym (append_assoc a b (own_shares part q.behind rows));
}

same_shares : (part : Part) (d : ℕ) (a b : List NodeShare) (t : Standing) (xs rows : List Row) → a ≡ b → Passed part d a t xs rows → Passed part d b t xs rows
same_shares part d a b t xs rows e p = subst (λ (zs : List NodeShare). Passed part d zs t xs rows) e p

-- ---- the share of a row

weights_again : (T : ℕ) (possible : ObjectTypes) → weight_among T (types_in possible) ≡ weight_of T possible
weights_again T no_type = refl
weights_again T (object_type U w nodes others) = ap (λ (n : ℕ). cond (eqb U T) w n) (weights_again T others)

-- What stands below a row where there are any values.
abbrev IsChosen : Part → Plan → ℕ → Type 0
IsChosen part (leaf_plan type w fill) on = Unit {0}
IsChosen part (position possible) on = on ≡ filled_type part possible

weight_found : (part : Part) (below : Plan) (on k : ℕ) → (0 < k → IsChosen part below on) → k * value_cost part (weight_below on (below_in below)) ≡ k * value_cost part (weight_of_value below (filled part below))
weight_found part below on zero chosen = omega arith
weight_found part (leaf_plan type w fill) on (suc k) chosen = refl
weight_found part (position possible) on (suc k) chosen =
    ap (λ (w : ℕ). suc k * value_cost part w)
    (weights_again on possible ∙ ap (λ (T : ℕ). weight_of T possible) (chosen (omega arith)))

share_found : (part : Part) (t : Standing) (r : Row) (below : Plan) (on n : ℕ) (v : Tree) → r.below ≡ below_in below → times_of t r ≡ n
    → flat_map single_values (replicate n v) ≡ replicate (greatest_in r.selected.form r.selected.size n) (filled part below)
    → (0 < greatest_in r.selected.form r.selected.size n → IsChosen part below on)
    → row_share part t r on ≡ node_share part r.selected below (replicate n v)
share_found part t r below on n v is_below times singles chosen =
    let k : ℕ = greatest_in r.selected.form r.selected.size n in
    let values : values_of t r ≡ k = ap (λ (m : ℕ). greatest_in r.selected.form r.selected.size m) times in
    let weights : values_of t r * value_cost part (weight_below on r.below) ≡ values_add part below (flat_map single_values (replicate n v)) =
    ap₂ (λ (m : ℕ) (w : ℕ). m * value_cost part w) values (ap (λ (b : _). weight_below on b) is_below)
    ∙ weight_found part below on k chosen
    ∙ sym (sum_by-replicate (λ x. value_cost part (weight_of_value below x)) k (filled part below))
    ∙ ap (λ (xs : List Tree). values_add part below xs) (sym singles) in
    ap (λ (m : ℕ). share m (values_of t r) (m * entry_cost part r.selected + values_of t r * value_cost part (weight_below on r.below))) (times ∙ sym (length-replicate n v))
    ∙ ap (λ (m : ℕ). share (length (replicate n v)) m (length (replicate n v) * entry_cost part r.selected + values_of t r * value_cost part (weight_below on r.below)))
    (values ∙ sym (length-replicate k (filled part below)) ∙ ap length (sym singles))
    ∙ ap (λ (m : ℕ). share (length (replicate n v)) (length (flat_map single_values (replicate n v))) (length (replicate n v) * entry_cost part r.selected + m)) weights

-- ---- values and entries of the filled response

-- The entries of so many objects that are filled alike.
objects_found : (U T n : ℕ) (es : Entries) → flat_map (entries_in U) (replicate n (object T es)) ≡ replicate (cond (eqb U T) n 0) es
objects_found U T n es = ⊎_elim
    (λ (e : eqb U T ≡ true).
    same_times (entries_in U) n (object T es) es (λ (h : 0 < n). ap (λ (b : Bool). cond b (es ∷ []) []) e)
    ∙ ap (λ (b : Bool). replicate (cond b n 0) es) (sym e))
    (λ (e : eqb U T ≡ false).
    none_times (entries_in U) n (object T es) (ap (λ (b : Bool). cond b (es ∷ []) []) e)
    ∙ ap (λ (b : Bool). replicate (cond b n 0) es) (sym e))
    (cases_Bool (eqb U T))

firsts_found : (n : ℕ) (es fs : Entries) (k : List ℕ) (v : Tree) → (0 < n → es ≡ entry k v fs) → flat_map first_value (replicate n es) ≡ replicate n v
firsts_found n es fs k v is = same_times first_value n es v (λ (h : 0 < n). ap first_value (is h))

others_found : (n : ℕ) (es fs : Entries) (k : List ℕ) (v : Tree) → (0 < n → es ≡ entry k v fs) → flat_map other_entries (replicate n es) ≡ replicate n fs
others_found n es fs k v is = same_times other_entries n es fs (λ (h : 0 < n). ap other_entries (is h))

same_if_some : {A : Type 0} (n : ℕ) (x y : A) → (0 < n → x ≡ y) → replicate n x ≡ replicate n y
same_if_some zero x y is = refl
same_if_some (suc n) x y is = ap (λ z. replicate (suc n) z) (is (omega arith))

-- ---- the whole

-- What is known of the entries of a type's objects: there are none, or they are filled, and cost little enough.
abbrev AreFilled : Part → ℕ → Nodes → Entries → Type 0
AreFilled part n nodes es = 0 < n → (greatest_of_nodes part nodes ≤ CAP) × (es ≡ filled_entries part nodes)

module _ (holds : ℕ → Data → Bool) (part : Part) where
  -- The type that is chosen below a row.
  type_chosen : (d T w : ℕ) (first : Bool) (s : Selected) (below : Plan) (rows : List Row) → IsSound holds below → greatest_cost part below ≤ CAP → ClearBelow d (totals part rows)
      → IsChosen part below (choice_at part (row_at d T w first s below) (rows_below (suc d) below ++ rows))
  unfolding rows_below
  type_chosen d T w first s (leaf_plan type weight fill) rows sound counted clear = tt
  type_chosen d T w first s (position possible) rows sound counted clear =
      let deeper = one_deeper d (totals part rows) clear in
      let nothing = clear (suc d) (omega arith) in
      let added = types_added part (suc d) possible rows deeper nothing.0 in
      let most = added.greatest in
      let none = nothing.1 in
      chosen_is_filled holds part ((totals part (rows_of_types (suc d) possible ++ rows)).greatest (suc d)) (picked part (rows_of_types (suc d) possible ++ rows) (suc d)) (picked part rows (suc d)) possible sound.1 counted (omega arith)
      (types_picked part (suc d) possible rows deeper nothing.0 nothing.1)

  mutual
    unfolding row_shares choices rows_below rows_of_types rows_of_nodes

    below_passed : (d k : ℕ) (below : Plan) (rows : List Row) (t : Standing) → t.objects (suc d) ≡ k → (0 < k → IsChosen part below (t.types (suc d))) → IsSound holds below → (0 < k → greatest_cost part below ≤ CAP) → ClearBelow d (totals part rows)
        → Passed part (suc d) (each_node (node_share part) below (replicate k (filled part below))) t (rows_below (suc d) below) rows
    below_passed d k (leaf_plan type w fill) rows t stand chosen sound counted clear = none_passed part (suc d) t rows
    below_passed d k (position possible) rows t stand chosen sound counted clear =
        let T = t.types (suc d) in
        let deeper = one_deeper d (totals part rows) clear in
        let nothing = clear (suc d) (omega arith) in
        same_shares part (suc d) _ _ t (rows_of_types (suc d) possible) rows
        (ap (λ (vs : List Tree). each_of_types (node_share part) possible vs) (same_if_some k (object T (filled_object part possible)) (filled part (position possible)) (λ (h : 0 < k). ap (λ (U : ℕ). object U (filled_object part possible)) (chosen h))))
        (types_passed (suc d) T k (filled_object part possible) possible rows t stand refl sound.1
        (λ (is : is_possible T possible ≡ true) (h : 0 < k).
        let few = nodes_at_most part T possible in
        let most = counted h in
        (omega arith, filled_object_is holds part possible sound.1 ∙ ap (λ (U : ℕ). filled_entries part (nodes_of U possible)) (sym (chosen h))))
        deeper nothing.0)

    pub types_passed : (d T n : ℕ) (es : Entries) (possible : ObjectTypes) (rows : List Row) (t : Standing) → t.objects d ≡ n → t.types d ≡ T → TypesSound holds possible
        → (is_possible T possible ≡ true → AreFilled part n (nodes_of T possible) es) → ClearBelow d (totals part rows) → (totals part rows).sum d ≡ 0
        → Passed part d (each_of_types (node_share part) possible (replicate n (object T es))) t (rows_of_types d possible) rows
    types_passed d T n es no_type rows t stand type sound are clear none = none_passed part d t rows
    types_passed d T n es (object_type U w nodes others) rows t stand type sound are clear none =
        let behind = types_added part d others rows clear none in
        let m : ℕ = cond (eqb U T) n 0 in
        let p = nodes_passed d U w m true nodes es (rows_of_types d others ++ rows) t (ap₂ (λ (a b : ℕ). cond (eqb U a) b 0) type stand) sound.1 (own_filled (eqb U T) refl) behind.clear in
        let q = types_passed d T n es others rows p.behind ((p.same d (omega arith)).0 ∙ stand) ((p.same d (omega arith)).1 ∙ type) sound.2 others_filled clear none in
        same_shares part d _ _ t (rows_of_types d (object_type U w nodes others)) rows
        (ap (λ (ess : List Entries). each_of_nodes (node_share part) nodes ess ++ each_of_types (node_share part) others (replicate n (object T es))) (sym (objects_found U T n es)))
        (both_passed part d d (each_of_nodes (node_share part) nodes (replicate m es)) (each_of_types (node_share part) others (replicate n (object T es))) t (rows_of_nodes d U w true nodes) (rows_of_types d others) rows (omega arith) p q)
      where
        own_filled : (b : Bool) → eqb U T ≡ b → AreFilled part (cond b n 0) nodes es
        own_filled true e some = subst (λ (b : Bool). (greatest_of_nodes part (cond b nodes (nodes_of T others)) ≤ CAP) × (es ≡ filled_entries part (cond b nodes (nodes_of T others)))) e
            (are (ap (λ (b : Bool). b || is_possible T others) e) some)
        own_filled false e some = absurd (omega arith)

        others_filled : is_possible T others ≡ true → AreFilled part n (nodes_of T others) es
        others_filled is some =
            let differ = types_differ U T others sound.0 is in
            subst (λ (b : Bool). (greatest_of_nodes part (cond b nodes (nodes_of T others)) ≤ CAP) × (es ≡ filled_entries part (cond b nodes (nodes_of T others)))) differ
            (are (ap (λ (b : Bool). b || is_possible T others) differ ∙ is) some)

    nodes_passed : (d U w n : ℕ) (first : Bool) (nodes : Nodes) (es : Entries) (rows : List Row) (t : Standing) → cond (eqb U (t.types d)) (t.objects d) 0 ≡ n → NodesSound holds nodes → AreFilled part n nodes es → ClearBelow d (totals part rows)
        → Passed part d (each_of_nodes (node_share part) nodes (replicate n es)) t (rows_of_nodes d U w first nodes) rows
    nodes_passed d U w n first no_node es rows t stand sound are clear = none_passed part d t rows
    nodes_passed d U w n first (node s below others) es rows t stand sound are clear =
        let more = rows_of_nodes d U w false others ++ rows in
        let r = row_at d U w first s below in
        let on = choice_at part r (rows_below (suc d) below ++ more) in
        let u = standing_behind t r on in
        let k : ℕ = greatest_in s.form s.size n in
        let v = filled_in s.form s.size (filled part below) in
        let fs = filled_entries part others in
        let added = nodes_added part d U w others rows clear in
        let few : 0 < k → greatest_cost part below ≤ CAP = λ (h : 0 < k).
        let c = (are (some_entry s.form s.size n h)).0 in item_counted s.form s.size n (greatest_cost part below) h (omega arith) in
        let chosen : 0 < k → IsChosen part below on = λ (h : 0 < k). type_chosen d U w first s below more sound.1 (few h) added.clear in
        let here : times_of t r ≡ n = stand in
        let values : u.objects (suc d) ≡ k = put_here (suc d) (values_of t r) t.objects ∙ ap (λ (m : ℕ). greatest_in s.form s.size m) here in
        let types : u.types (suc d) ≡ on = put_here (suc d) on t.types in
        let p = below_passed d k below more u values (λ (h : 0 < k). subst (λ (T : ℕ). IsChosen part below T) (sym types) (chosen h)) sound.1 few added.clear in
        let above : (e : ℕ) → e ≤ d → (p.behind.objects e ≡ t.objects e) × (p.behind.types e ≡ t.types e) = λ e less.
        let same = p.same e (omega arith) in
        (same.0 ∙ put_elsewhere (suc d) (values_of t r) t.objects e (below_apart e (suc d) (omega arith)), same.1 ∙ put_elsewhere (suc d) on t.types e (below_apart e (suc d) (omega arith))) in
        let at = above d (omega arith) in
        let q = nodes_passed d U w n false others fs rows p.behind (ap₂ (λ (a b : ℕ). cond (eqb U a) b 0) at.1 at.0 ∙ stand) sound.2 (λ (h : 0 < n). let c = (are h).0 in (omega arith, refl)) clear in
        let is : 0 < n → es ≡ entry s.key v fs = λ (h : 0 < n). (are h).1 in
        let firsts = firsts_found n es fs s.key v is in
        let singles : flat_map single_values (replicate n v) ≡ replicate k (filled part below) = filled_values s.form s.size n (filled part below) (filled_single part below) in
        let all : row_share part t r on ∷ (each_node (node_share part) below (replicate k (filled part below)) ++ each_of_nodes (node_share part) others (replicate n fs)) ≡ each_of_nodes (node_share part) (node s below others) (replicate n es) =
        ap₂ (λ (x : NodeShare) (xs : List NodeShare). x ∷ xs)
        (share_found part t r below on n v refl here singles chosen ∙ ap (λ (vs : List Tree). node_share part s below vs) (sym firsts))
        (ap₂ (λ (vs : List Tree) (ess : List Entries). each_node (node_share part) below vs ++ each_of_nodes (node_share part) others ess)
        (sym singles ∙ ap (λ (vs : List Tree). flat_map single_values vs) (sym firsts))
        (sym (others_found n es fs s.key v is))) in
        same_shares part d _ _ t (rows_of_nodes d U w first (node s below others)) rows all
        record {
          behind = q.behind;
          same = λ e less. ((q.same e less).0 ∙ (above e less).0, (q.same e less).1 ∙ (above e less).1);
          found =
              ap (λ (xs : List Row). own_shares part t (r ∷ xs)) (append_assoc (rows_below (suc d) below) (rows_of_nodes d U w false others) rows)
              ∙ ap (λ (xs : List NodeShare). row_share part t r on ∷ xs) p.found
              ∙ ap (λ (xs : List NodeShare). row_share part t r on ∷ (each_node (node_share part) below (replicate k (filled part below)) ++ xs)) q.found
              ∙ ap (λ (xs : List NodeShare). row_share part t r on ∷ xs) (sym (append_assoc (each_node (node_share part) below (replicate k (filled part below))) (each_of_nodes (node_share part) others (replicate n fs)) (own_shares part q.behind rows)));
        }
