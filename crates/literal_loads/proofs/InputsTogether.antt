-- What inputs come to together, once all that is written is gone through: an input object, and the arguments of a field.
use Rattle.std.proofs.Common.{◌≡◌, ◌+◌, ℕ, Bool, true, false, not, ◌||◌, ◌&&◌, bytes_eq, List, [], ◌∷◌, map, inl, inr, Option, None, Some, Result, Ok, Err, refl, sym, ap, ap₂, ◌∙◌, subst, arith, cond}
use Rattle.std.specs.Prelude.{option_map, leb}
use Rattle.std.specs.List.{list_any, list_all, sum_by, AllByRecursion}
use Rattle.std.proofs.lemmas.Bool.{cases_Bool, and_parts}
use Rattle.std.proofs.lemmas.List.Sums.{sum_by-cons}
use Rattle.std.proofs.lemmas.Option.{none-some}
use Rattle.gql_base.specs.names.Names.{are_distinct, first_of_name, has_name, repeated_from}
use Rattle.gql_base.specs.declared.parts.trees.Argument.{Argument}
use Rattle.gql_base.specs.parts.Trees.{value_tree}
use Rattle.gql_base.proofs.NameLaws.RepeatedLaws.{distinct_none}
use Rattle.input_values.specs.values.Coerced.{CoercedTree, CoercedFields, no_coerced_field, nodes, field_nodes}
use Rattle.input_values.specs.inputs.Shapes.{is_nullable}
use Rattle.input_values.specs.coercion.Answers.{Answer, mapped, both, at_step, key_step}
use Rattle.input_values.specs.coercion.Calls.{nodes_in}
use Rattle.input_values.specs.coercion.Given.{Given, is_nothing}
use Rattle.input_values.specs.coercion.Forms.{InputForm, FieldForm, stays_absent, is_required, field_form, absence_at, is_field}
use Rattle.input_values.specs.coercion.Objects.{Finder, wrong_name, absent_at, field_answer, with_field, fields_at}
use Rattle.input_values.specs.coercion.Coercion.{coerced, find_coerced}
use Rattle.input_values.specs.coercion.Literals.{Environment, literal_given, literal_fields}
use Rattle.input_values.specs.coercion.Sizes.{fields_written}
use Rattle.input_values.proofs.CoercionSteps.Fields.{found_answer, find_written}
use Rattle.schema_model.specs.InputForms.{input_forms}
use Rattle.schema_model.specs.Arguments.{ArgData}
use Rattle.cost_directives.specs.ArgumentCosts.{ObjectInputs, InputWeightData, weighed_name, argument_cost, arguments_cost, value_cost, fields_cost, cost_at_field}
use Rattle.cost_directives.specs.Weights.{objects_in}
use Rattle.variable_coercion.specs.Refusals.{Refusal, value_limit, fitting, given_value, no_value, all_in_order, and_then, unfit_size}
use Rattle.variable_coercion.specs.Arguments.{argument_given, argument_refusal, marked, default_or_none, supplied_answer, unsupplied_answer, argument_answer}
use Rattle.schema_rules.proofs.Namings.{find_view}
use Rattle.literal_loads.specs.Loads.{Scale}
use Rattle.literal_loads.specs.Sums.{Placed, placed_input, placed_name, placed_weight, refused_in, nodes_of, cost_of, answer_at}
use Rattle.literal_loads.proofs.NamedSums.{IsFirst}

-- ---- one field

-- It is there, or absent, and has the nodes and the cost of the same answer as an argument.
abbrev pub FieldIs : Scale → Placed → Result ArgData Refusal → Answer (Option CoercedTree) → Type 0
FieldIs e p answer field = (o : Option CoercedTree) × (field ≡ Ok o) × (nodes_of answer ≡ nodes_in o) × (cost_of e p answer ≡ argument_cost (objects_in e.weights) (placed_weight p) o)

module _ (e : Scale) (p : Placed) where
  absent_null : (nullable : Bool) → refused_in (marked false (no_value p.0.name nullable)) ≡ 0 → FieldIs e p (marked false (no_value p.0.name nullable)) (absent_at (cond nullable stays_absent is_required))
  absent_null true fine = (None, refl, refl, refl)
  absent_null false fine = absurd (omega (arith, fine))

  absent_field : (default : Option CoercedTree) → refused_in (marked false (default_or_none p.0 default)) ≡ 0 → FieldIs e p (marked false (default_or_none p.0 default)) (absent_at (absence_at default p.0.shape))
  absent_field (Some default) fine = (Some default, refl, refl, refl)
  absent_field None fine = absent_null (is_nullable p.0.shape) fine

  small_field : (t : CoercedTree) (small : Bool) → refused_in (marked true (given_value (argument_refusal p.0.name) (cond small (Ok t) (Err unfit_size)))) ≡ 0 → FieldIs e p (marked true (given_value (argument_refusal p.0.name) (cond small (Ok t) (Err unfit_size)))) (Ok (Some t))
  small_field t true fine = (Some t, refl, refl, refl)
  small_field t false fine = absurd (omega (arith, fine))

  given_field : (answer : Answer CoercedTree) → refused_in (marked true (given_value (argument_refusal p.0.name) (fitting answer))) ≡ 0 → FieldIs e p (marked true (given_value (argument_refusal p.0.name) (fitting answer))) (mapped Some answer)
  given_field (Ok t) fine = small_field t (leb (nodes t) value_limit) fine
  given_field (Err path) fine = absurd (omega (arith, fine))

  module _ (form : ℕ → InputForm) where
    something : (g : Given) (nothing : Bool) → refused_in (cond nothing (unsupplied_answer p.0) (supplied_answer form p.0 g)) ≡ 0
        → FieldIs e p (cond nothing (unsupplied_answer p.0) (supplied_answer form p.0 g)) (field_answer (field_form p.0) (cond nothing None (Some (λ s. coerced form g s))))
    something g true fine = absent_field p.0.default fine
    something g false fine = given_field (coerced form g p.0.shape) fine

    pub field_is : (env : Environment) (found : Option Argument) → refused_in (argument_answer form p.0 (option_map (λ a. literal_given env (value_tree a.value)) found)) ≡ 0
        → FieldIs e p (argument_answer form p.0 (option_map (λ a. literal_given env (value_tree a.value)) found)) (field_answer (field_form p.0) (found_answer form env found))
    field_is env None fine = absent_field p.0.default fine
    field_is env (Some a) fine = something (literal_given env (value_tree a.value)) (is_nothing (literal_given env (value_tree a.value))) fine

-- ---- all fields

-- The weights have it under its name.
abbrev pub IsWeighed : List Placed → Placed → Type 0
IsWeighed whole p = first_of_name weighed_name (map placed_weight whole) p.0.name ≡ Some (placed_weight p)

weighed_first : (whole : List Placed) (p : Placed) → IsFirst placed_name whole p → IsWeighed whole p
weighed_first whole p first = sym (find_view placed_weight (λ w. bytes_eq w.name p.0.name) whole) ∙ ap (option_map placed_weight) first

abbrev pub FieldsAre : ObjectInputs → List InputWeightData → Answer CoercedFields → ℕ → ℕ → Type 0
FieldsAre objects weights answer size price = (cs : CoercedFields) × (answer ≡ Ok cs) × (field_nodes cs ≡ size) × (fields_cost objects weights cs ≡ price)

one_field_more : (objects : ObjectInputs) (weights : List InputWeightData) (p : Placed) (o : Option CoercedTree) (cs : CoercedFields) (size price : ℕ) → first_of_name weighed_name weights p.0.name ≡ Some (placed_weight p) → field_nodes cs ≡ size → fields_cost objects weights cs ≡ price
    → (field_nodes (with_field p.0.name o cs) ≡ nodes_in o + size) × (fields_cost objects weights (with_field p.0.name o cs) ≡ argument_cost objects (placed_weight p) o + price)
unfolding value_cost
one_field_more objects weights p None cs size price weighed n c = (omega (arith, n), omega (arith, c))
one_field_more objects weights p (Some t) cs size price weighed n c = (ap (λ m. nodes t + m) n, ap₂ (λ x y. cost_at_field (λ shape own. value_cost objects shape own t) x + y) weighed c)

module _ (e : Scale) (written : List Argument) where
  abbrev find : Finder
  find name = find_coerced (input_forms e.schema) name (literal_fields e.values (fields_written written))

  field_here : (p : Placed) → refused_in (answer_at e written p) ≡ 0 → FieldIs e p (answer_at e written p) (field_answer (field_form p.0) (find p.0.name))
  field_here p fine =
      subst (λ x. FieldIs e p (answer_at e written p) (field_answer (field_form p.0) x)) (sym (find_written (input_forms e.schema) e.values p.0.name written))
      (field_is e p (input_forms e.schema) e.values (first_of_name (λ a. a.name.text) written p.0.name) fine)

  pub all_fields : (whole ps : List Placed) → AllByRecursion (IsFirst placed_name whole) ps → sum_by (λ p. refused_in (answer_at e written p)) ps ≡ 0
      → FieldsAre (objects_in e.weights) (map placed_weight whole) (fields_at (map field_form (map placed_input ps)) find) (sum_by (λ p. nodes_of (answer_at e written p)) ps) (sum_by (λ p. cost_of e p (answer_at e written p)) ps)
  unfolding value_cost
  all_fields whole [] firsts fine = (no_coerced_field, refl, refl, refl)
  all_fields whole (p ∷ ps) firsts fine =
      let r = sum_by-cons (λ q. refused_in (answer_at e written q)) p ps in
      let n = sum_by-cons (λ q. nodes_of (answer_at e written q)) p ps in
      let c = sum_by-cons (λ q. cost_of e q (answer_at e written q)) p ps in
      let here = field_here p (omega (arith, r, fine)) in
      let rest = all_fields whole ps firsts.1 (omega (arith, r, fine)) in
      let more = one_field_more (objects_in e.weights) (map placed_weight whole) p here.0 rest.0 _ _ (weighed_first whole p firsts.0) rest.2 rest.3 in (
        with_field p.0.name here.0 rest.0,
        ap₂ (λ x y. both (with_field p.0.name) (at_step (key_step p.0.name) x) y) here.1 rest.1,
        more.0 ∙ (ap (λ m. m + sum_by (λ q. nodes_of (answer_at e written q)) ps) (sym here.2) ∙ sym n),
        more.1 ∙ (ap (λ m. m + sum_by (λ q. cost_of e q (answer_at e written q)) ps) (sym here.3) ∙ sym c),
      )

-- ---- names

no_wrong_from : (fs : List FieldForm) (seen : List (List ℕ)) (n : ℕ) (names : List (List ℕ)) → list_all (is_field fs) names ≡ true → repeated_from seen n names ≡ None → wrong_name false fs seen names ≡ None
no_wrong_from fs seen n [] fields once = refl
no_wrong_from fs seen n (name ∷ names) fields once =
    let parts = and_parts (is_field fs name) (list_all (is_field fs) names) fields in
    elim (cases_Bool (list_any (bytes_eq name) seen)) [
      | inl t ↦ absurd (none-some n (sym once ∙ ap (λ b. cond b (Some n) (repeated_from (name ∷ seen) (n + 1) names)) t))
      | inr t ↦ ap₂ (λ a b. cond (not a || (not false && b)) (Some name) (wrong_name false fs (name ∷ seen) names)) parts.0 t
          ∙ no_wrong_from fs (name ∷ seen) (n + 1) names parts.1 (sym (ap (λ b. cond b (Some n) (repeated_from (name ∷ seen) (n + 1) names)) t) ∙ once)
    ]

field_names : (placed : List Placed) (name : List ℕ) → has_name placed_name placed name ≡ is_field (map field_form (map placed_input placed)) name
field_names [] name = refl
field_names (p ∷ placed) name = ap (λ b. bytes_eq p.0.name name || b) (field_names placed name)

all_field_names : (placed : List Placed) (names : List (List ℕ)) → list_all (has_name placed_name placed) names ≡ true → list_all (is_field (map field_form (map placed_input placed))) names ≡ true
all_field_names placed [] all = refl
all_field_names placed (name ∷ names) all =
    let parts = and_parts (has_name placed_name placed name) (list_all (has_name placed_name placed) names) all in
    ap₂ (λ a b. a && b) (sym (field_names placed name) ∙ parts.0) (all_field_names placed names parts.1)

pub no_wrong : (placed : List Placed) (names : List (List ℕ)) → list_all (has_name placed_name placed) names ≡ true → are_distinct names ≡ true → wrong_name false (map field_form (map placed_input placed)) [] names ≡ None
no_wrong placed names all once = no_wrong_from (map field_form (map placed_input placed)) [] 0 names (all_field_names placed names all) (distinct_none names once)

-- ---- all arguments

abbrev pub ArgumentsAre : ObjectInputs → List InputWeightData → Result (List ArgData) Refusal → ℕ → Type 0
ArgumentsAre objects weights answer price = (args : List ArgData) × (answer ≡ Ok args) × (arguments_cost objects weights args ≡ price)

module _ (e : Scale) (written : List Argument) where
  one_argument : (p : Placed) (ps : List Placed) (answer : Result ArgData Refusal) (rest : Result (List ArgData) Refusal) (price : ℕ) → refused_in answer ≡ 0 → ArgumentsAre (objects_in e.weights) (map placed_weight ps) rest price
      → ArgumentsAre (objects_in e.weights) (map placed_weight (p ∷ ps)) (and_then answer rest) (cost_of e p answer + price)
  one_argument p ps (Ok arg) rest price fine is = (arg ∷ is.0, ap (and_then (Ok arg)) is.1, ap (λ m. argument_cost (objects_in e.weights) (placed_weight p) arg.value + m) is.2)
  one_argument p ps (Err refusal) rest price fine is = absurd (omega (arith, fine))

  pub all_arguments : (ps : List Placed) → sum_by (λ p. refused_in (answer_at e written p)) ps ≡ 0
      → ArgumentsAre (objects_in e.weights) (map placed_weight ps) (all_in_order (λ i. argument_answer (input_forms e.schema) i (argument_given e.values written i.name)) (map placed_input ps)) (sum_by (λ p. cost_of e p (answer_at e written p)) ps)
  all_arguments [] fine = ([], refl, refl)
  all_arguments (p ∷ ps) fine =
      let r = sum_by-cons (λ q. refused_in (answer_at e written q)) p ps in
      let c = sum_by-cons (λ q. cost_of e q (answer_at e written q)) p ps in
      let rest = all_arguments ps (omega (arith, r, fine)) in
      subst (ArgumentsAre (objects_in e.weights) (map placed_weight (p ∷ ps)) (all_in_order (λ i. argument_answer (input_forms e.schema) i (argument_given e.values written i.name)) (map placed_input (p ∷ ps)))) (sym c)
      (one_argument p ps (answer_at e written p) (all_in_order (λ i. argument_answer (input_forms e.schema) i (argument_given e.values written i.name)) (map placed_input ps)) (sum_by (λ q. cost_of e q (answer_at e written q)) ps) (omega (arith, r, fine)) rest)
