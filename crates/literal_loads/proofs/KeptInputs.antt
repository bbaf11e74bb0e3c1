-- What is kept of inputs, and what follows of objects and of arguments.
use Rattle.std.proofs.Common.{◌≡◌, ◌+◌, ◌*◌, ◌<◌, ◌≤◌, ◌-◌, ◌&&◌, not, All, ℕ, Bool, true, false, bytes_eq, List, [], ◌∷◌, length, map, drop, get_or, Option, None, Some, sym, ap, ap₂, ◌∙◌, subst, arith}
use Rattle.std.specs.List.{list_any}
use Rattle.std.specs.Prelude.{IfSome, option_copied}
use Rattle.std.specs.Borrow.{Bor}
use Rattle.std.proofs.lemmas.Bool.{and_parts, not-true}
use Rattle.std.proofs.lemmas.List.Sums.{sum_by-cons}
use Rattle.std.proofs.lemmas.Option.{same_Some}
use Rattle.gql_base.specs.names.Names.{are_distinct, first_of_name}
use Rattle.gql_base.specs.declared.parts.trees.Argument.{Argument}
use Rattle.gql_base.proofs.NameLaws.IndexLaws.{dropped_before}
use Rattle.input_values.specs.values.Coerced.{CoercedFields, coerced_object}
use Rattle.input_values.specs.inputs.Shapes.{named_shape}
use Rattle.input_values.specs.declared.inputs.shape.TypeId.{TypeId}
use Rattle.input_values.specs.coercion.Forms.{object_form, field_form}
use Rattle.input_values.specs.coercion.Answers.{mapped}
use Rattle.input_values.specs.coercion.Objects.{Finder, wrong_name, fields_at, object_of, object_at}
use Rattle.input_values.specs.coercion.Coercion.{find_coerced}
use Rattle.input_values.specs.coercion.Literals.{literal_fields}
use Rattle.input_values.specs.coercion.Sizes.{fields_written, names_written}
use Rattle.input_values.proofs.CoercionSteps.Literals.{names_given}
use Rattle.schema_rules.specs.declared.kind.Kind.TheVariants.{Input}
use Rattle.schema_model.specs.declared.entries.FieldId.{FieldId}
use Rattle.schema_model.specs.SchemaData.{type_at, field_at}
use Rattle.schema_model.specs.InputForms.{input_forms, form_by}
use Rattle.cost_num.specs.Capped.{capped}
use Rattle.cost_directives.specs.ArgumentCosts.{value_cost, leaf_cost, object_cost, fields_at as cost_of_fields, fields_cost, arguments_cost}
use Rattle.cost_directives.specs.Weights.{objects_in, field_in}
use Rattle.variable_coercion.specs.Arguments.{argument_answer, argument_given}
use Rattle.variable_coercion.specs.Refusals.{all_in_order}
use Rattle.literal_loads.specs.declared.placed.PlacedInput.{PlacedInput}
use Rattle.literal_loads.specs.declared.load.Load.{Load}
use Rattle.literal_loads.specs.declared.load.Sum.{Sum}
use Rattle.literal_loads.specs.declared.inputs.KnownInputs.{KnownInputs}
use Rattle.literal_loads.specs.declared.inputs.Owner.TheVariants.{OfType, OfField}
use Rattle.literal_loads.specs.LoadSums.{AreBoth, IsObject}
use Rattle.literal_loads.specs.Loads.{Scale, WeighsNamed, object_answer}
use Rattle.literal_loads.specs.Sums.{Placed, placed_input, placed_name, placed_weight, refused_in, nodes_of, cost_of, IsAbsentSum, answer_at, IsSum}
use Rattle.literal_loads.specs.KnownInputs.{inputs_of, weights_of, placed_in, IsAbsentRight, IsKnown}
use Rattle.literal_loads.specs.Walks.{AreInputs, AreWritten, TakesOne, HasWeighed}
use Rattle.literal_loads.proofs.NamedSums.{last_distinct, found_right, all_first}
use Rattle.literal_loads.proofs.InputsTogether.{all_fields, no_wrong, all_arguments}

-- ---- where nothing is written

absent_in_front : (e : Scale) (p : Placed) (ps : List Placed) (sum one now : Sum) → IsSum e ps [] sum → IsAbsentSum e p one → AreBoth sum one now → IsSum e (p ∷ ps) [] now
absent_in_front e p ps sum one now is own both =
    let r = sum_by-cons (λ q. refused_in (answer_at e [] q)) p ps in
    let n = sum_by-cons (λ q. nodes_of (answer_at e [] q)) p ps in
    let c = sum_by-cons (λ q. cost_of e q (answer_at e [] q)) p ps in
    record {
      refusals = omega (arith, r, is.refusals, own.refusals, both.refusals);
      size = omega (arith, n, is.size, own.size, both.size);
      price = omega (arith, c, is.price, own.price, both.price);
    }

pub one_absent_more : {A : Type 0} (view : A → Placed) (e : Scale) (inputs : List A) (at : ℕ) (p : A) (sum one now : Sum) → 0 < at → at ≤ length inputs → p ≡ get_or inputs (at - 1) p → IsSum e (map view (drop at inputs)) [] sum → IsAbsentSum e (view p) one → AreBoth sum one now → IsSum e (map view (drop (at - 1) inputs)) [] now
one_absent_more view e inputs at p sum one now some within is sums own both =
    subst (λ ps. IsSum e (map view ps) [] now) (sym (dropped_before inputs at p some within is)) (absent_in_front e (view p) (map view (drop at inputs)) sum one now sums own both)

-- what one of them comes to
pub right_there : (e : Scale) (inputs : List PlacedInput) (at : ℕ) (p : PlacedInput) → 0 < at → at ≤ length inputs → p ≡ get_or inputs (at - 1) p → All (IsAbsentRight e) inputs → IsAbsentRight e p
right_there e inputs at p some within is right = subst (IsAbsentRight e) (sym is) (right (at - 1) p (omega (arith, some, within)))

pub right_found : (e : Scale) (name : List ℕ) (inputs : List PlacedInput) (r : Option (Bor PlacedInput)) → option_copied r ≡ first_of_name (λ q. q.input.now.name) inputs name → All (IsAbsentRight e) inputs → IfSome r (λ p. IsAbsentRight e p.now)
right_found e name inputs None found right = tt
right_found e name inputs (Some p) found right = found_right (IsAbsentRight e) (λ q. bytes_eq q.input.now.name name) inputs p.now (sym found) right

-- ---- one more that is written

pub one_written_more : (e : Scale) (placed : List Placed) (written : List Argument) (at : ℕ) (a : Argument) (sum now : Sum) → are_distinct (names_written written) ≡ true → 0 < at → at ≤ length written → a ≡ get_or written (at - 1) a → TakesOne e placed a sum now → AreInputs placed (drop at written) → IsSum e placed (drop at written) sum
    → AreInputs placed (drop (at - 1) written) × IsSum e placed (drop (at - 1) written) now
one_written_more e placed written at a sum now once some within is takes inputs sums =
    let front = dropped_before written at a some within is in
    let apart = and_parts (not (list_any (bytes_eq a.name.text) (names_written (drop at written)))) (are_distinct (names_written (drop at written)))
    (subst (λ l. are_distinct (names_written l) ≡ true) front (last_distinct (λ b. b.name.text) (at - 1) written once)) in (
      subst (AreInputs placed) (sym front) (ap₂ (λ x y. x && y) takes.0 inputs),
      subst (λ l. IsSum e placed l now) (sym front) (takes.1 (drop at written) (not-true _ apart.0) sums),
    )

-- ---- an input object

module _ (e : Scale) (of : TypeId) (k : KnownInputs) (known : IsKnown e k) (whose : k.owner ≡ OfType of) (written : List Argument) where
  abbrev find : Finder
  find name = find_coerced (input_forms e.schema) name (literal_fields e.values (fields_written written))

  fields_known : (type_at e.schema of.number).inputs ≡ map placed_input (placed_in k)
  fields_known = sym (known.defined ∙ ap (inputs_of e) whose)

  weights_known : get_or (objects_in e.weights) of.number None ≡ Some (map placed_weight (placed_in k))
  weights_known = sym (ap (weights_of e) whose) ∙ known.weighed

  object_cost_is : (own : Option ℕ) (fields : CoercedFields) (nullable : Bool) → value_cost (objects_in e.weights) (named_shape of.number nullable) own (coerced_object fields) ≡ object_cost own + fields_cost (objects_in e.weights) (map placed_weight (placed_in k)) fields
  unfolding value_cost
  object_cost_is own fields nullable = ap (cost_of_fields own (λ inputs. fields_cost (objects_in e.weights) inputs fields)) weights_known

  pub fields_answer : (type_at e.schema of.number).kind ≡ Input → AreInputs (placed_in k) written → are_distinct (names_written written) ≡ true → object_answer e written of.number ≡ mapped coerced_object (fields_at (map field_form (map placed_input (placed_in k))) find)
  fields_answer kind inputs once =
      ap (λ f. object_at f false (literal_fields e.values (fields_written written)) find) (ap (λ x. form_by x (type_at e.schema of.number)) kind ∙ ap (λ is. object_form (map field_form is)) fields_known)
      ∙ (ap (λ names. object_of (wrong_name false (map field_form (map placed_input (placed_in k))) [] names) (fields_at (map field_form (map placed_input (placed_in k))) find)) (names_given e.values written)
      ∙ ap (λ wrong. object_of wrong (fields_at (map field_form (map placed_input (placed_in k))) find)) (no_wrong (placed_in k) (names_written written) inputs once))

  pub object_weighs : (sum : Sum) (load : Load) → (type_at e.schema of.number).kind ≡ Input → AreWritten e (placed_in k) written sum → IsObject sum load → WeighsNamed e of.number (object_answer e written of.number) load
  object_weighs sum load kind sums round = λ nullable.
      let is = all_fields e written (placed_in k) (placed_in k) (all_first placed_name (placed_in k) known.once) (sym sums.sums.refusals ∙ round.fine) in
      let n = round.size in
      let s = sums.sums.size in
      let m = is.2 in (
        coerced_object is.0,
        fields_answer kind sums.inputs sums.once ∙ ap (mapped coerced_object) is.1,
        record {
          size = omega (arith, n, s, m);
          price = λ own.
              ap₂ (λ x y. x + y) (ap₂ (λ x y. leaf_cost own * x + object_cost own * y) round.leaves round.objects) (round.inside ∙ (sums.sums.price ∙ sym is.3))
              ∙ (let whole = object_cost_is own is.0 nullable in omega (arith, whole));
        },
      )

-- ---- the arguments of a field

pub arguments_weigh : (e : Scale) (of : FieldId) (k : KnownInputs) (written : List Argument) (sum : Sum) (cost : ℕ) → IsKnown e k → k.owner ≡ OfField of → AreWritten e (placed_in k) written sum → sum.refused ≡ 0 → cost ≡ capped sum.cost → HasWeighed e of.number written cost
arguments_weigh e of k written sum cost known whose sums fine is =
    let all = all_arguments e written (placed_in k) (sym sums.sums.refusals ∙ fine) in
    let inputs : map placed_input (placed_in k) ≡ (field_at e.schema of.number).arguments = known.defined ∙ ap (inputs_of e) whose in
    let weights = same_Some (field_in e.weights of.number).arguments (map placed_weight (placed_in k)) (sym (ap (weights_of e) whose) ∙ known.weighed) in (
      all.0,
      ap (all_in_order (λ i. argument_answer (input_forms e.schema) i (argument_given e.values written i.name))) (sym inputs) ∙ all.1,
      is ∙ ap capped (sums.sums.price ∙ (sym all.2 ∙ ap (λ ws. arguments_cost (objects_in e.weights) ws all.0) (sym weights))),
    )
