-- What a call says of a field's arguments, and what it is made by.
use Rattle.std.proofs.Common.{◌≡◌, ◌<◌, ℕ, Bool, true, List, [], ◌∷◌, map, length, get_or, All, Option, Some, None, Result, Ok, Err, refl, sym, ap, ◌∙◌, subst, arith}
use Rattle.std.specs.Prelude.{option_map, unwrap_or, IfOk, IfSome, IsTrue}
use Rattle.std.proofs.lemmas.List.Elements.{All-nil, All-head, All-tail}
use Rattle.std.proofs.lemmas.Option.{same_Some, slice_get_read, unwrap_or-slice_get}
use Rattle.cost_num.specs.Capped.{capped}
use Rattle.gql_base.specs.declared.parts.trees.Argument.{Argument}
use Rattle.gql_base.specs.parts.Trees.{named_value}
use Rattle.schema_model.specs.declared.args.Args.{Args}
use Rattle.schema_model.specs.declared.entries.FieldId.{FieldId}
use Rattle.schema_model.specs.Arguments.{ArgData, args_data}
use Rattle.cost_directives.specs.DeclaredSizes.{SizeRuleData, no_arg, arg_at, slicing_args, slice_of, handed_or, size_with, declared_size}
use Rattle.cost_directives.specs.SizeSources.{slice_before, greatest_slice, sliced_else, assumed_else, free_else, size_source}
use Rattle.cost_directives.specs.declared.sources.SizeSource.TheVariants.{Undeclared}
use Rattle.cost_directives.specs.Weights.{argument_cost_in, field_in}
use Rattle.variable_coercion.specs.declared.faults.ArgFault.{ArgFault}
use Rattle.variable_coercion.specs.Refusals.{Refusal}
use Rattle.variable_coercion.specs.Arguments.{arguments_answer}
use Rattle.variable_coercion.specs.Calls.{AgreeAt, AreSomeOf}
use Rattle.document_rules.specs.Sites.{known_field}
use Rattle.plan_model.specs.SelectedFields.{Setting, coerced_arguments, if_coerced, length_in, sized_by}
use Rattle.plan_model.specs.Collecting.{CollectedField}
use Rattle.plan_model.specs.SameArguments.{same_arguments, value_of}
use Rattle.plan_model.proofs.SameValues.{same_as_equal}
use Rattle.plan_model.proofs.GivenArguments.{same_arguments_written}
use Rattle.collected_fields.specs.declared.collected.Collected.{Collected}
use Rattle.collected_fields.specs.Views.{collected_field}
use Rattle.literal_loads.specs.Loads.{Scale}
use Rattle.literal_loads.specs.Comparing.{AreSameArguments, values_in as values_answered}
use Rattle.literal_loads.specs.Walks.{HasWeighed}
use Rattle.merged_selections.specs.declared.call.Call.{Call}
use Rattle.merged_selections.specs.declared.lookups.Handed.{Handed}
use Rattle.merged_selections.specs.NodeParts.{handed_data}
use Rattle.merged_selections.specs.NodeTests.{coerced_of, args_given, handed_by, IsCoerced, Costs, SizesAlike, FindsSizes, IsCall, IsSameField, scale_at}

-- ---- coerced arguments

if_is : (answer : Result (List ArgData) Refusal) (args : List ArgData) → answer ≡ Ok args → if_coerced answer ≡ args
if_is answer args is = ap if_coerced is

module _ (e : Setting) (field : ℕ) (f : CollectedField) (args : List ArgData) (is : coerced_of e field f ≡ Ok args) where
  given_are : args_given e field f ≡ args
  given_are = if_is (coerced_of e field f) args is

  -- what they cost
  pub costs_by : (cost : ℕ) → cost ≡ capped (argument_cost_in e.weights field args) → Costs e field f (Ok cost)
  costs_by cost found = (is ∙ ap Ok (sym given_are), found ∙ ap (λ (a : List ArgData). capped (argument_cost_in e.weights field a)) (sym given_are))

-- what literals are found to cost, of which these are the arguments
pub weighed_costs : (e : Setting) (field : ℕ) (f : CollectedField) (written : List Argument) (scale : Scale) (cost : ℕ) → scale ≡ scale_at e → f.call.arguments ≡ map named_value written → HasWeighed scale field written cost → Costs e field f (Ok cost)
weighed_costs e field f written scale cost scaled writes h =
    let here : HasWeighed (scale_at e) field written cost = subst (λ (s : Scale). HasWeighed s field written cost) scaled h in
    costs_by e field f here.0 (ap (λ w. coerced_arguments e.schema field w e.values) writes ∙ (same_arguments_written e.schema field written e.values ∙ here.1)) cost here.2

-- ---- sizes, which are found by slicing arguments

same_at : (args others : List ArgData) (place : ℕ) → AgreeAt args others place → arg_at args place ≡ arg_at others place
same_at args others place same = sym (unwrap_or-slice_get args place no_arg) ∙ (ap (λ o. unwrap_or o no_arg) same ∙ unwrap_or-slice_get others place no_arg)

module _ (args others : List ArgData) where
  same_slices : (places : List ℕ) → All (AgreeAt args others) places → slicing_args places args ≡ slicing_args places others
  same_slices [] all = refl
  same_slices (place ∷ places) all =
      ap (λ (a : ArgData). a ∷ slicing_args places args) (same_at args others place (All-head (AgreeAt args others) place places all))
      ∙ ap (λ (slices : List ArgData). arg_at others place ∷ slices) (same_slices places (All-tail (AgreeAt args others) place places all))

  same_greatest : (places : List ℕ) → All (AgreeAt args others) places → greatest_slice places args ≡ greatest_slice places others
  same_greatest [] all = refl
  same_greatest (place ∷ places) all =
      ap (λ (a : ArgData). slice_before place (slice_of a) (greatest_slice places args)) (same_at args others place (All-head (AgreeAt args others) place places all))
      ∙ ap (slice_before place (slice_of (arg_at others place))) (same_greatest places (All-tail (AgreeAt args others) place places all))

  module _ (rule : SizeRuleData) (undeclared : ℕ) (all : All (AgreeAt args others) rule.slicing) where
    same_size : (handed : Option ℕ) → declared_size rule undeclared args handed ≡ declared_size rule undeclared others handed
    same_size handed = ap (λ (slices : List ArgData). handed_or handed (size_with rule undeclared slices)) (same_slices rule.slicing all)

    same_source : (handed : Option ℕ) → size_source rule undeclared args handed ≡ size_source rule undeclared others handed
    same_source (Some n) = refl
    same_source None = ap (λ slice. sliced_else slice (assumed_else rule.assumed (free_else rule.is_free (Undeclared undeclared)))) (same_greatest rule.slicing all)

sizes_alike : (e : Setting) (field : ℕ) (args others : List ArgData) → All (AgreeAt args others) (field_in e.weights field).size.slicing → SizesAlike e field args others
sizes_alike e field args others all = record {
  sizes = same_size args others (field_in e.weights field).size e.weights.undeclared all;
  sources = same_source args others (field_in e.weights field).size e.weights.undeclared all;
}

-- where no argument slices, any will do
pub unsliced_finds : (e : Setting) (field : ℕ) (f : CollectedField) (places : List ℕ) (none : Args) → places ≡ (field_in e.weights field).size.slicing → length places ≡ 0 → FindsSizes e field f (Ok none)
unsliced_finds e field f places none is empty = sizes_alike e field (args_data none) (args_given e field f) (subst (All (AgreeAt (args_data none) (args_given e field f))) is (of_none places empty))
  where
    of_none : (places : List ℕ) → length places ≡ 0 → All (AgreeAt (args_data none) (args_given e field f)) places
    of_none [] h = All-nil (AgreeAt (args_data none) (args_given e field f))
    of_none (place ∷ places) h = absurd (omega (arith, h))

-- and those at the slicing places
pub sliced_finds : (e : Setting) (field : ℕ) (f : CollectedField) (written : List Argument) (places : List ℕ) (result : Result Args ArgFault) → places ≡ (field_in e.weights field).size.slicing → f.call.arguments ≡ map named_value written
    → ((args : List ArgData) → arguments_answer e.schema field written e.values ≡ Ok args → AreSomeOf places args result) → IsCoerced e field f → FindsSizes e field f result
sliced_finds e field f written places result is writes finds coerced = found result
    (finds (args_given e field f) (sym (ap (λ w. coerced_arguments e.schema field w e.values) writes ∙ same_arguments_written e.schema field written e.values) ∙ coerced))
  where
    found : (result : Result Args ArgFault) → AreSomeOf places (args_given e field f) result → FindsSizes e field f result
    found (Ok sizes) all = sizes_alike e field (args_data sizes) (args_given e field f) (subst (All (AgreeAt (args_data sizes) (args_given e field f))) is all)
    found (Err fault) untold = untold

-- ---- a call

pub call_is : (e : Setting) (of : FieldId) (field : Collected) (sizes : Args) (cost : ℕ) (hands : Option Handed) → handed_data hands ≡ handed_by e of.number (args_data sizes) → SizesAlike e of.number (args_data sizes) (args_given e of.number (collected_field field))
    → Costs e of.number (collected_field field) (Ok cost) → IsCall e of.number (collected_field field) (record { of = of; field = field; sizes = sizes; cost = cost; hands = hands })
call_is e of field sizes cost hands handed alike costs = record {
  coerced = costs.0;
  sized = alike;
  cost = costs.1;
  hands = handed ∙ ap (λ a. option_map (λ n. (sized_by e (known_field of.number), n)) (length_in a)) (alike.sizes None);
}

-- ---- fields that are compared by what is written

same_by_values : (one other : Result (List ArgData) Refusal) → values_answered one ≡ values_answered other → same_arguments (if_coerced one) (if_coerced other) ≡ true
same_by_values (Ok args) (Ok others) same = (same_as_equal args others).1 (same_Some (map value_of args) (map value_of others) same)
same_by_values (Ok args) (Err refusal) same = absurd (cc)
same_by_values (Err refusal) (Ok others) same = absurd (cc)
same_by_values (Err refusal) (Err other) same = refl

module _ (e : Setting) (call : Call) (field : ℕ) (f : CollectedField) (written others : List Argument) (scale : Scale) (scaled : scale ≡ scale_at e) (of : call.of.number ≡ field)
    (writes : (collected_field call.field).call.arguments ≡ map named_value written) (writes_too : f.call.arguments ≡ map named_value others) where
  written_same : AreSameArguments scale field written others → same_arguments (args_given e call.of.number (collected_field call.field)) (args_given e field f) ≡ true
  written_same same =
      let here : AreSameArguments (scale_at e) field written others = subst (λ (s : Scale). AreSameArguments s field written others) scaled same in
      same_by_values (coerced_of e call.of.number (collected_field call.field)) (coerced_of e field f)
      (ap values_answered (ap (λ (n : ℕ). coerced_of e n (collected_field call.field)) of ∙ (ap (λ w. coerced_arguments e.schema field w e.values) writes ∙ same_arguments_written e.schema field written e.values))
      ∙ (here ∙ ap values_answered (sym (ap (λ w. coerced_arguments e.schema field w e.values) writes_too ∙ same_arguments_written e.schema field others e.values))))

  pub seen_there : {E : Type 0} (calls : List Call) (at : ℕ) (result : Result Bool E) → at < length calls → call ≡ get_or calls at call → IfOk result (λ same. IsTrue same → AreSameArguments scale field written others) → IfOk result (λ same. IsTrue same → IsSameField e calls at field f)
  seen_there calls at (Ok same) within is h = λ so. subst (λ (o : Option Call). IfSome o (λ c. same_arguments (args_given e c.of.number (collected_field c.field)) (args_given e field f) ≡ true)) (sym (slice_get_read calls (length calls) at call refl within is)) (written_same (h so))
  seen_there calls at (Err fault) within is h = tt
