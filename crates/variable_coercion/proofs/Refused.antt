-- What is told is the first of all that is refused.
use Rattle.std.proofs.Common.{◌≡◌, ℕ, List, [], ◌∷◌, ◌++◌, map, Bool, true, false, cond, leb, Option, Some, None, Result, Ok, Err, refl, sym, ap, ◌∙◌}
use Rattle.std.specs.List.{flat_map}
use Rattle.std.specs.Option.{option_or}
use Rattle.std.proofs.lemmas.Option.{none-some, same_Some}
use Rattle.gql_base.specs.parts.Values.{ValueTree}
use Rattle.serde_json.specs.Data.{Data}
use Rattle.serde_json.specs.Find.{get}
use Rattle.input_values.specs.values.Coerced.{CoercedTree, nodes}
use Rattle.input_values.specs.inputs.Shapes.{ShapeTree, is_nullable}
use Rattle.input_values.specs.inputs.Definitions.{InputData}
use Rattle.input_values.specs.coercion.Answers.{Answer, refusal}
use Rattle.input_values.specs.coercion.Given.{Given, is_nothing}
use Rattle.input_values.specs.coercion.Forms.{InputForm}
use Rattle.input_values.specs.coercion.Coercion.{coerced}
use Rattle.input_values.specs.coercion.Literals.{no_variables, literal_given}
use Rattle.input_values.specs.coercion.Refusals.{Paths, all_refusals, first_path}
use Rattle.input_values.proofs.CoercionLaws.FirstRefusals.{first_refusal as first_place}
use Rattle.variable_coercion.specs.Json.{json_given}
use Rattle.variable_coercion.specs.Refusals.{value_limit, Unfit, unfit_at, unfit_size, fitting, Refusal, given_value, no_value, and_then, all_in_order}
use Rattle.variable_coercion.specs.Variables.{Declared, variable_refusal, default_answer, value_answer, named_answer, variable_answer}
use Rattle.variable_coercion.specs.Arguments.{argument_refusal, default_or_none, marked, argument_answer}
use Rattle.variable_coercion.specs.Relation.{size_refusals, fitting_refusals, without_refusals, default_refusals, value_refusals, variable_refusals, argument_default_refusals, argument_refusals, first_refusal, refusal_in}

by_size : (why : Unfit → Refusal) (t : CoercedTree) (small : Bool) → first_refusal (cond small [] (why unfit_size ∷ [])) ≡ refusal_in (given_value why (cond small (Ok t) (Err unfit_size)))
by_size why t true = refl
by_size why t false = refl

by_place : (why : Unfit → Refusal) (paths : Paths) (a : Answer CoercedTree) → first_path paths ≡ refusal a → first_refusal (map (λ path. why (unfit_at path)) paths ++ size_refusals why a) ≡ refusal_in (given_value why (fitting a))
by_place why [] (Ok t) e = by_size why t (leb (nodes t) value_limit)
by_place why [] (Err path) e = absurd (none-some path e)
by_place why (p ∷ paths) (Ok t) e = absurd (none-some p (sym e))
by_place why (p ∷ paths) (Err path) e = ap (λ q. Some (why (unfit_at q))) (same_Some p path e)

fitting_first : (why : Unfit → Refusal) (form : ℕ → InputForm) (g : Given) (s : ShapeTree) → first_refusal (fitting_refusals why form g s) ≡ refusal_in (given_value why (fitting (coerced form g s)))
fitting_first why form g s = by_place why (all_refusals form g s) (coerced form g s) (first_place form g s)

without_first : (name : List ℕ) (nullable : Bool) → first_refusal (without_refusals name nullable) ≡ refusal_in (no_value name nullable)
without_first name true = refl
without_first name false = refl

default_first : (form : ℕ → InputForm) (v : Declared) (o : Option ValueTree) → first_refusal (default_refusals form v o) ≡ refusal_in (default_answer form v.name v.shape o)
default_first form v (Some literal) = fitting_first (variable_refusal v.name) form (literal_given no_variables literal) v.shape
default_first form v None = without_first v.name (is_nullable v.shape)

value_first : (form : ℕ → InputForm) (v : Declared) (o : Option Data) → first_refusal (value_refusals form v o) ≡ refusal_in (value_answer form v o)
value_first form v (Some json) = fitting_first (variable_refusal v.name) form (json_given json) v.shape
value_first form v None = default_first form v v.default

named_same : (name : List ℕ) (a : Result (Option CoercedTree) Refusal) → refusal_in a ≡ refusal_in (named_answer name a)
named_same name (Ok t) = refl
named_same name (Err r) = refl

pub variable_first : (form : ℕ → InputForm) (given : Data) (v : Declared) → first_refusal (variable_refusals form given v) ≡ refusal_in (variable_answer form given v)
variable_first form given v = value_first form v (get v.name given) ∙ named_same v.name (value_answer form v (get v.name given))

marked_same : (supplied : Bool) (a : Result (Option CoercedTree) Refusal) → refusal_in a ≡ refusal_in (marked supplied a)
marked_same supplied (Ok t) = refl
marked_same supplied (Err r) = refl

or_none_first : (i : InputData) (o : Option CoercedTree) → first_refusal (argument_default_refusals i o) ≡ refusal_in (default_or_none i o)
or_none_first i (Some default) = refl
or_none_first i None = without_first i.name (is_nullable i.shape)

unsupplied_first : (i : InputData) → first_refusal (argument_default_refusals i i.default) ≡ refusal_in (marked false (default_or_none i i.default))
unsupplied_first i = or_none_first i i.default ∙ marked_same false (default_or_none i i.default)

written_first : (form : ℕ → InputForm) (i : InputData) (g : Given) (nothing : Bool)
    → first_refusal (cond nothing (argument_default_refusals i i.default) (fitting_refusals (argument_refusal i.name) form g i.shape)) ≡ refusal_in (cond nothing (marked false (default_or_none i i.default)) (marked true (given_value (argument_refusal i.name) (fitting (coerced form g i.shape)))))
written_first form i g true = unsupplied_first i
written_first form i g false = fitting_first (argument_refusal i.name) form g i.shape ∙ marked_same true (given_value (argument_refusal i.name) (fitting (coerced form g i.shape)))

pub argument_first : (form : ℕ → InputForm) (i : InputData) (o : Option Given) → first_refusal (argument_refusals form i o) ≡ refusal_in (argument_answer form i o)
argument_first form i None = unsupplied_first i
argument_first form i (Some g) = written_first form i g (is_nothing g)

-- ## One after another

first_both : (front rest : List Refusal) → first_refusal (front ++ rest) ≡ option_or (first_refusal front) (first_refusal rest)
first_both [] rest = refl
first_both (r ∷ front) rest = refl

refusal_both : {A : Type 0} (a : Result A Refusal) (b : Result (List A) Refusal) → option_or (refusal_in a) (refusal_in b) ≡ refusal_in (and_then a b)
refusal_both (Ok x) (Ok xs) = refl
refusal_both (Ok x) (Err r) = refl
refusal_both (Err q) b = refl

pub all_first : {D A : Type 0} (refusals : D → List Refusal) (answer : D → Result A Refusal) → ((d : D) → first_refusal (refusals d) ≡ refusal_in (answer d)) → (ds : List D) → first_refusal (flat_map refusals ds) ≡ refusal_in (all_in_order answer ds)
all_first refusals answer each [] = refl
all_first refusals answer each (d ∷ ds) =
    first_both (refusals d) (flat_map refusals ds)
    ∙ (ap (λ x. option_or x (first_refusal (flat_map refusals ds))) (each d) ∙ (ap (option_or (refusal_in (answer d))) (all_first refusals answer each ds) ∙ refusal_both (answer d) (all_in_order answer ds)))
