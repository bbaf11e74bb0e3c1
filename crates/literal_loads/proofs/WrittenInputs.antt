-- Inputs where one more is written in front of others.
use Rattle.std.proofs.Common.{◌≡◌, ◌≤◌, ℕ, Bool, true, false, bytes_eq, List, [], ◌∷◌, map, inl, inr, Option, None, Some, Result, Ok, Err, refl, sym, ap, ◌∙◌, subst, arith, cond}
use Rattle.std.specs.Prelude.{option_map}
use Rattle.std.specs.List.{list_any}
use Rattle.std.specs.Cmp.Lexicographic.{nat_list_eq_equiv}
use Rattle.std.proofs.lemmas.Bool.{cases_Bool, le-leb}
use Rattle.std.proofs.lemmas.Slice.Eq.{bytes_eq-Decides}
use Rattle.gql_base.specs.names.Names.{are_distinct, first_of_name}
use Rattle.gql_base.specs.declared.parts.trees.Argument.{Argument}
use Rattle.gql_base.specs.parts.Trees.{value_tree}
use Rattle.input_values.specs.values.Coerced.{CoercedTree, nodes}
use Rattle.input_values.specs.inputs.Definitions.{InputData}
use Rattle.input_values.specs.coercion.Answers.{Answer}
use Rattle.input_values.specs.coercion.Given.{Given, is_nothing}
use Rattle.input_values.specs.coercion.Forms.{InputForm}
use Rattle.input_values.specs.coercion.Coercion.{coerced}
use Rattle.input_values.specs.coercion.Literals.{Environment, literal_given}
use Rattle.input_values.specs.coercion.Sizes.{names_written}
use Rattle.schema_model.specs.InputForms.{input_forms}
use Rattle.schema_model.specs.Arguments.{ArgData}
use Rattle.variable_coercion.specs.Refusals.{Refusal, value_limit, fitting, given_value, unfit_size}
use Rattle.variable_coercion.specs.Arguments.{argument_given, argument_refusal, marked, supplied_answer, unsupplied_answer, argument_answer}
use Rattle.literal_loads.specs.declared.load.Load.{Load}
use Rattle.literal_loads.specs.declared.load.Sum.{Sum}
use Rattle.literal_loads.specs.Loads.{Scale, IsLoad, WeighsLiteral}
use Rattle.literal_loads.specs.Sums.{Placed, placed_name, refused_in, nodes_of, cost_of, IsAbsentSum, answer_at, IsSum}
use Rattle.literal_loads.specs.LoadSums.{cost_at, IsInPlace}
use Rattle.literal_loads.specs.Walks.{TakesOne}
use Rattle.cost_directives.proofs.FirstsFound.{found_passes}
use Rattle.literal_loads.proofs.NamedSums.{found_any, sums_alike, one_differs}

-- ---- what is written under a name

given_or : Environment → Bool → Argument → Option Argument → Option Given
given_or env here a later = option_map (λ b. literal_given env (value_tree b.value)) (cond here (Some a) later)

pub given_other : (env : Environment) (a : Argument) (others : List Argument) (name : List ℕ) → bytes_eq name a.name.text ≡ false → argument_given env (a ∷ others) name ≡ argument_given env others name
given_other env a others name t = ap (λ b. option_map (λ c. literal_given env (value_tree c.value)) (cond b (Some a) (first_of_name (λ c. c.name.text) others name))) (nat_list_eq_equiv.symm a.name.text name ∙ t)

pub given_here : (env : Environment) (a : Argument) (others : List Argument) (name : List ℕ) → bytes_eq name a.name.text ≡ true → argument_given env (a ∷ others) name ≡ Some (literal_given env (value_tree a.value))
given_here env a others name t = ap (λ b. option_map (λ c. literal_given env (value_tree c.value)) (cond b (Some a) (first_of_name (λ c. c.name.text) others name))) (nat_list_eq_equiv.symm a.name.text name ∙ t)

pub given_none : (env : Environment) (others : List Argument) (name : List ℕ) → list_any (bytes_eq name) (names_written others) ≡ false → argument_given env others name ≡ None
given_none env [] name none = refl
given_none env (b ∷ others) name none = elim (cases_Bool (bytes_eq name b.name.text)) [
  | inl t ↦ absurd (let bad = rw t at none in cc)
  | inr t ↦ given_other env b others name t ∙ given_none env others name (rw t at none)
]

-- ---- what an argument answers

answer_nothing : (form : ℕ → InputForm) (i : InputData) (g : Given) → is_nothing g ≡ true → argument_answer form i (Some g) ≡ unsupplied_answer i
answer_nothing form i g t = ap (λ b. cond b (unsupplied_answer i) (supplied_answer form i g)) t

answer_value : (form : ℕ → InputForm) (i : InputData) (g : Given) (t : CoercedTree) → is_nothing g ≡ false → coerced form g i.shape ≡ Ok t → nodes t ≤ value_limit → argument_answer form i (Some g) ≡ Ok record { value = Some t; supplied = true }
answer_value form i g t there is small =
    ap (λ b. cond b (unsupplied_answer i) (supplied_answer form i g)) there
    ∙ (ap (λ (a : Answer CoercedTree). marked true (given_value (argument_refusal i.name) (fitting a))) is
    ∙ ap (λ b. marked true (given_value (argument_refusal i.name) (cond b (Ok t) (Err unfit_size)))) (le-leb (nodes t) value_limit small))

-- ---- one more

module _ (e : Scale) (placed : List Placed) (a : Argument) (p : Placed) (found : first_of_name placed_name placed a.name.text ≡ Some p) where
  abbrev given_now : Given
  given_now = literal_given e.values (value_tree a.value)

  module _ (others : List Argument) (apart : list_any (bytes_eq a.name.text) (names_written others) ≡ false) where
    abbrev before : Placed → Result ArgData Refusal
    before x = answer_at e others x

    abbrev now : Placed → Result ArgData Refusal
    now x = answer_at e (a ∷ others) x

    other_same : (x : Placed) → bytes_eq (placed_name x) a.name.text ≡ false → before x ≡ now x
    other_same x t = ap (argument_answer (input_forms e.schema) x.0) (sym (given_other e.values a others x.0.name t))

    not_before : (x : Placed) → bytes_eq (placed_name x) a.name.text ≡ true → before x ≡ unsupplied_answer x.0
    not_before x t = ap (argument_answer (input_forms e.schema) x.0) (given_none e.values others x.0.name (subst (λ n. list_any (bytes_eq n) (names_written others) ≡ false) (sym ((bytes_eq-Decides x.0.name a.name.text).0 t)) apart))

    is_now : (x : Placed) → bytes_eq (placed_name x) a.name.text ≡ true → now x ≡ argument_answer (input_forms e.schema) x.0 (Some given_now)
    is_now x t = ap (argument_answer (input_forms e.schema) x.0) (given_here e.values a others x.0.name t)

    module _ (nothing : is_nothing given_now ≡ true) where
      all_same : (x : Placed) → before x ≡ now x
      all_same x = elim (cases_Bool (bytes_eq (placed_name x) a.name.text)) [
        | inl t ↦ not_before x t ∙ (sym (answer_nothing (input_forms e.schema) x.0 given_now nothing) ∙ sym (is_now x t))
        | inr t ↦ other_same x t
      ]

      still_sum : (sum : Sum) → IsSum e placed others sum → IsSum e placed (a ∷ others) sum
      still_sum sum is = record {
        refusals = is.refusals ∙ sums_alike (λ x. refused_in (before x)) (λ x. refused_in (now x)) placed (λ x. ap refused_in (all_same x));
        size = is.size ∙ sums_alike (λ x. nodes_of (before x)) (λ x. nodes_of (now x)) placed (λ x. ap nodes_of (all_same x));
        price = is.price ∙ sums_alike (λ x. cost_of e x (before x)) (λ x. cost_of e x (now x)) placed (λ x. ap (cost_of e x) (all_same x));
      }

    module _ (t : CoercedTree) (there : is_nothing given_now ≡ false) (is : coerced (input_forms e.schema) given_now p.0.shape ≡ Ok t) (small : nodes t ≤ value_limit) where
      here : bytes_eq (placed_name p) a.name.text ≡ true
      here = found_passes (λ q. bytes_eq (placed_name q) a.name.text) placed p found

      value_now : now p ≡ Ok record { value = Some t; supplied = true }
      value_now = is_now p here ∙ answer_value (input_forms e.schema) p.0 given_now t there is small

      changed_sum : (sum was next : Sum) (load : Load) (cost : ℕ) → are_distinct (map placed_name placed) ≡ true → IsLoad e p.0.shape t load → cost ≡ cost_at p.1 load → IsAbsentSum e p was → IsInPlace sum was load.nodes cost next → IsSum e placed others sum → IsSum e placed (a ∷ others) next
      changed_sum sum was next load cost once loads costs old moved sums =
          let r = one_differs placed_name (λ x. refused_in (before x)) (λ x. refused_in (now x)) a.name.text (λ x u. ap refused_in (other_same x u)) placed p once found in
          let n = one_differs placed_name (λ x. nodes_of (before x)) (λ x. nodes_of (now x)) a.name.text (λ x u. ap nodes_of (other_same x u)) placed p once found in
          let c = one_differs placed_name (λ x. cost_of e x (before x)) (λ x. cost_of e x (now x)) a.name.text (λ x u. ap (cost_of e x) (other_same x u)) placed p once found in
          let rw_ = old.refusals ∙ ap refused_in (sym (not_before p here)) in
          let nw = old.size ∙ ap nodes_of (sym (not_before p here)) in
          let cw = old.price ∙ ap (cost_of e p) (sym (not_before p here)) in
          let rn = ap refused_in value_now in
          let nn = ap nodes_of value_now in
          let cn = ap (cost_of e p) value_now in
          record {
            refusals = omega (arith, r, rw_, rn, moved.refusals, sums.refusals);
            size = omega (arith, n, nw, nn, moved.size, sums.size, loads.size);
            price = (let paid = costs ∙ loads.price p.1 in omega (arith, c, cw, cn, moved.price, sums.price, paid));
          }

pub takes_nothing : (e : Scale) (placed : List Placed) (a : Argument) (p : Placed) (sum : Sum) → first_of_name placed_name placed a.name.text ≡ Some p → is_nothing (literal_given e.values (value_tree a.value)) ≡ true → TakesOne e placed a sum sum
takes_nothing e placed a p sum found nothing = (found_any (λ q. bytes_eq (placed_name q) a.name.text) placed p found, λ others apart is. still_sum e placed a p found others apart nothing sum is)

pub takes_value : (e : Scale) (placed : List Placed) (a : Argument) (p : Placed) (sum was next : Sum) (load : Load) (cost : ℕ) → first_of_name placed_name placed a.name.text ≡ Some p → are_distinct (map placed_name placed) ≡ true → is_nothing (literal_given e.values (value_tree a.value)) ≡ false
    → WeighsLiteral e p.0.shape a.value load → cost ≡ cost_at p.1 load → load.nodes ≤ value_limit → IsAbsentSum e p was → IsInPlace sum was load.nodes cost next → TakesOne e placed a sum next
takes_value e placed a p sum was next load cost found once there weighs costs small old moved = (
  found_any (λ q. bytes_eq (placed_name q) a.name.text) placed p found,
  λ others apart is. changed_sum e placed a p found others apart weighs.0 there weighs.1 (subst (λ n. n ≤ value_limit) weighs.2.size small) sum was next load cost once weighs.2 costs old moved is,
)
