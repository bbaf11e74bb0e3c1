-- What a position says of one of its types.
use Rattle.std.proofs.Common.{◌≡◌, inl, inr, ⊎_elim, ℕ, ◌+◌, ◌≤◌, ◌<◌, max, Bool, true, false, true≢false, cond, ◌||◌, eqb, refl, sym, ap, ◌∙◌, subst, arith, eqb-true, eq-eqb, leb-true, leb-false}
use Rattle.std.proofs.lemmas.Bool.{cases_Bool}
use Rattle.serde_json.specs.Data.{Data}
use Rattle.response_model.specs.Plan.{ObjectTypes, no_type, object_type, Nodes, is_possible, weight_of, nodes_of}
use Rattle.response_model.specs.Cost.{Part, value_cost}
use Rattle.response_model.specs.Bound.{greatest_of_types, greatest_of_nodes, HasType, TypesSound, NodesSound}
use Rattle.response_model.specs.Filled.{IsFirstType, attains, filled_type}

-- Two types of which one is possible and the other is not are different.
pub types_differ : (U T : ℕ) (possible : ObjectTypes) → is_possible U possible ≡ false → is_possible T possible ≡ true → eqb U T ≡ false
types_differ U T possible absent present = ⊎_elim
    (λ (e : eqb U T ≡ true). absurd (true≢false (sym present ∙ ap (λ (x : ℕ). is_possible x possible) (sym (eqb-true U T e)) ∙ absent)))
    (λ (e : eqb U T ≡ false). e)
    (cases_Bool (eqb U T))

-- The nodes of a type in front, and of a type behind one that it differs from.
pub nodes_in_front : (T w : ℕ) (nodes : Nodes) (others : ObjectTypes) → nodes_of T (object_type T w nodes others) ≡ nodes
nodes_in_front T w nodes others = ap (λ (b : Bool). cond b nodes (nodes_of T others)) (eq-eqb T T refl)

pub nodes_behind : (U T w : ℕ) (nodes : Nodes) (others : ObjectTypes) → eqb U T ≡ false → nodes_of T (object_type U w nodes others) ≡ nodes_of T others
nodes_behind U T w nodes others e = ap (λ (b : Bool). cond b nodes (nodes_of T others)) e

module _ (holds : ℕ → Data → Bool) where
  sound_in_either : (b : Bool) (ns ms : Nodes) → NodesSound holds ns → NodesSound holds ms → NodesSound holds (cond b ns ms)
  sound_in_either true ns ms n m = n
  sound_in_either false ns ms n m = m

  pub nodes_sound : (T : ℕ) (possible : ObjectTypes) → TypesSound holds possible → NodesSound holds (nodes_of T possible)
  nodes_sound T no_type sound = tt
  nodes_sound T (object_type U w nodes others) sound = sound_in_either (eqb U T) nodes (nodes_of T others) sound.1 (nodes_sound T others sound.2)

-- What an object of a type costs at most, by what its position says of the type.
abbrev own_cost : Part → ℕ → ObjectTypes → ℕ
own_cost part T possible = value_cost part (weight_of T possible) + greatest_of_nodes part (nodes_of T possible)

own_in_front : (part : Part) (b : Bool) (w v : ℕ) (ns ms : Nodes) → b ≡ true → value_cost part (cond b w v) + greatest_of_nodes part (cond b ns ms) ≡ value_cost part w + greatest_of_nodes part ns
own_in_front part true w v ns ms e = refl
own_in_front part false w v ns ms e = absurd (true≢false (sym e))

own_behind : (part : Part) (b : Bool) (w v : ℕ) (ns ms : Nodes) → b ≡ false → value_cost part (cond b w v) + greatest_of_nodes part (cond b ns ms) ≡ value_cost part v + greatest_of_nodes part ms
own_behind part true w v ns ms e = absurd (true≢false e)
own_behind part false w v ns ms e = refl

-- No type of a position costs more than the greatest.
pub own_at_most : (part : Part) (T : ℕ) (possible : ObjectTypes) → is_possible T possible ≡ true → value_cost part (weight_of T possible) + greatest_of_nodes part (nodes_of T possible) ≤ greatest_of_types part possible
own_at_most part T no_type is = absurd (true≢false (sym is))
own_at_most part T (object_type U w nodes others) is = ⊎_elim
    (λ (e : eqb U T ≡ true). omega (arith, own_in_front part (eqb U T) w (weight_of T others) nodes (nodes_of T others) e))
    (λ (e : eqb U T ≡ false). omega (arith, own_behind part (eqb U T) w (weight_of T others) nodes (nodes_of T others) e, own_at_most part T others (sym (ap (λ (b : Bool). b || is_possible T others) e) ∙ is)))
    (cases_Bool (eqb U T))

-- The first type that attains a cost is possible, and costs that.
pub record Attained (part : Part) (n : ℕ) (possible : ObjectTypes) (T : ℕ) : Type 0 where
  pub possible_type : is_possible T possible ≡ true
  pub costs : value_cost part (weight_of T possible) + greatest_of_nodes part (nodes_of T possible) ≡ n

module _ (holds : ℕ → Data → Bool) where
  pub first_attained : (part : Part) (n : ℕ) (possible : ObjectTypes) (T : ℕ) → TypesSound holds possible → IsFirstType part n possible T → Attained part n possible T
  first_attained part n no_type T sound is = absurd is
  first_attained part n (object_type U w nodes others) T sound is = ⊎_elim
      (λ (here : (U ≡ T) × (value_cost part w + greatest_of_nodes part nodes ≡ n)). record {
        possible_type = ap (λ (b : Bool). b || is_possible T others) (eq-eqb U T here.0);
        costs = own_in_front part (eqb U T) w (weight_of T others) nodes (nodes_of T others) (eq-eqb U T here.0) ∙ here.1;
      })
      (λ (later : (value_cost part w + greatest_of_nodes part nodes < n) × IsFirstType part n others T).
      let behind = first_attained part n others T sound.2 later.1 in
      let differ = types_differ U T others sound.0 behind.possible_type in
      record {
        possible_type = ap (λ (b : Bool). b || is_possible T others) differ ∙ behind.possible_type;
        costs = own_behind part (eqb U T) w (weight_of T others) nodes (nodes_of T others) differ ∙ behind.costs;
      })
      is

-- A position that costs something has a type.
pub costly_has_type : (part : Part) (possible : ObjectTypes) (n : ℕ) → n < greatest_of_types part possible → HasType possible
costly_has_type part no_type n less = none_below n less
  where
    none_below : (n : ℕ) → n < 0 → ⊥
    none_below n less = omega arith
costly_has_type part (object_type T w nodes others) n less = tt

-- The type that the filled response takes is the first that attains the greatest cost.
first_of_two : (part : Part) (b : Bool) (T w : ℕ) (nodes : Nodes) (others : ObjectTypes) (U : ℕ) → attains part w nodes others ≡ b → (HasType others → IsFirstType part (greatest_of_types part others) others U)
    → IsFirstType part (greatest_of_types part (object_type T w nodes others)) (object_type T w nodes others) (cond b T U)
first_of_two part true T w nodes others U e later =
    let most = leb-true (greatest_of_types part others) (value_cost part w + greatest_of_nodes part nodes) e in
    inl (refl, omega arith)
first_of_two part false T w nodes others U e later =
    let less : value_cost part w + greatest_of_nodes part nodes < greatest_of_types part others = leb-false (greatest_of_types part others) (value_cost part w + greatest_of_nodes part nodes) e in
    let same : greatest_of_types part others ≡ max (value_cost part w + greatest_of_nodes part nodes) (greatest_of_types part others) = omega arith in
    inr (omega arith, subst (λ (n : ℕ). IsFirstType part n others U) same (later (costly_has_type part others (value_cost part w + greatest_of_nodes part nodes) less)))

pub filled_type_first : (part : Part) (possible : ObjectTypes) → HasType possible → IsFirstType part (greatest_of_types part possible) possible (filled_type part possible)
filled_type_first part no_type some = absurd some
filled_type_first part (object_type T w nodes others) some = first_of_two part (attains part w nodes others) T w nodes others (filled_type part others) refl (filled_type_first part others)

-- There is one first type.
pub one_first_type : (part : Part) (n : ℕ) (possible : ObjectTypes) (T U : ℕ) → IsFirstType part n possible T → IsFirstType part n possible U → T ≡ U
one_first_type part n no_type T U p q = absurd p
one_first_type part n (object_type V w nodes others) T U p q = ⊎_elim
    (λ (here : (V ≡ T) × (value_cost part w + greatest_of_nodes part nodes ≡ n)). ⊎_elim
    (λ (too : (V ≡ U) × (value_cost part w + greatest_of_nodes part nodes ≡ n)). sym here.0 ∙ too.0)
    (λ (later : (value_cost part w + greatest_of_nodes part nodes < n) × IsFirstType part n others U). absurd (not_less here.1 later.0))
    q)
    (λ (later : (value_cost part w + greatest_of_nodes part nodes < n) × IsFirstType part n others T). ⊎_elim
    (λ (here : (V ≡ U) × (value_cost part w + greatest_of_nodes part nodes ≡ n)). absurd (not_less here.1 later.0))
    (λ (too : (value_cost part w + greatest_of_nodes part nodes < n) × IsFirstType part n others U). one_first_type part n others T U later.1 too.1)
    q)
    p
  where
    not_less : {m k : ℕ} → m ≡ k → m < k → ⊥
    not_less e l = omega arith
