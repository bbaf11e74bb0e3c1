-- What variables and arguments come to is what the relations say, and nothing else.
use Rattle.std.proofs.Common.{◌≡◌, ℕ, List, [], ◌∷◌, Bool, true, false, true≢false, cond, leb, Option, Some, None, Result, Ok, Err, refl, sym, ap, ap₂, ◌∙◌}
use Rattle.std.proofs.lemmas.Option.{none-some, same_Some}
use Rattle.gql_base.specs.parts.Values.{ValueTree}
use Rattle.gql_base.proofs.WayLaws.AlikeSymbols.{first_same}
use Rattle.serde_json.specs.Data.{Data}
use Rattle.serde_json.specs.Find.{get}
use Rattle.input_values.specs.values.Coerced.{CoercedTree, nodes}
use Rattle.input_values.specs.inputs.Shapes.{ShapeTree, is_nullable}
use Rattle.input_values.specs.inputs.Definitions.{InputData}
use Rattle.input_values.specs.coercion.Answers.{Path, Answer}
use Rattle.input_values.specs.coercion.Given.{Given, is_nothing}
use Rattle.input_values.specs.coercion.Forms.{InputForm}
use Rattle.input_values.specs.coercion.Coercion.{coerced}
use Rattle.input_values.specs.coercion.Literals.{no_variables, literal_given}
use Rattle.input_values.proofs.CoercionLaws.Found.{Iff, ok_same, coerced_iff}
use Rattle.schema_model.specs.Arguments.{ArgData}
use Rattle.variable_coercion.specs.Json.{json_given}
use Rattle.variable_coercion.specs.Refusals.{value_limit, Unfit, unfit_size, fitting, Refusal, missing, given_value, no_value, and_then, all_in_order}
use Rattle.variable_coercion.specs.Variables.{Declared, VariableData, variable_refusal, default_answer, value_answer, named_answer, variable_answer}
use Rattle.variable_coercion.specs.Arguments.{argument_refusal, default_or_none, marked, argument_answer}
use Rattle.variable_coercion.specs.Relation.{AreAll, IsFitting, IsWithout, IsDefault, IsValue, IsVariable, IsArgumentDefault, IsWritten, IsArgument}

abbrev okay : {A : Type 0} → A → Result A Refusal
okay x = Ok x

no_ok : {A B : Type 0} (r : Refusal) (x : A) → Err r ≡ okay x → B
no_ok r x e = absurd (differ r x e)
  where
    differ : {A : Type 0} (r : Refusal) (x : A) → Err r ≡ okay x → ⊥
    differ r x e = cc

no_tree : {B : Type 0} (path : Path) (t : CoercedTree) (a : Answer CoercedTree) → a ≡ Err path → a ≡ Ok t → B
no_tree path t a e f = absurd (differ path t a e f)
  where
    differ : (path : Path) (t : CoercedTree) (a : Answer CoercedTree) → a ≡ Err path → a ≡ Ok t → ⊥
    differ path t a e f = cc

same_tree : (u t : CoercedTree) (a : Answer CoercedTree) → a ≡ Ok u → a ≡ Ok t → u ≡ t
same_tree u t a e f = ok_same u t (sym e ∙ f)

sized_iff : (why : Unfit → Refusal) (form : ℕ → InputForm) (g : Given) (s : ShapeTree) (u : CoercedTree) (small : Bool) → coerced form g s ≡ Ok u → leb (nodes u) value_limit ≡ small → (o : Option CoercedTree)
    → Iff (given_value why (cond small (Ok u) (Err unfit_size)) ≡ Ok o) (IsFitting form g s o)
sized_iff why form g s u true is e None = (λ h. absurd (none-some u (sym (ok_same (Some u) None h))), λ h. absurd h)
sized_iff why form g s u true is e (Some t) = (
  λ h. let k = same_Some u t (ok_same (Some u) (Some t) h) in ((coerced_iff form g s t).0 (is ∙ ap Ok k), ap (λ x. leb (nodes x) value_limit) (sym k) ∙ e),
  λ h. ap (λ x. Ok (Some x)) (same_tree u t (coerced form g s) is ((coerced_iff form g s t).1 h.0)),
)
sized_iff why form g s u false is e None = (λ h. no_ok (why unfit_size) None h, λ h. absurd h)
sized_iff why form g s u false is e (Some t) = (
  λ h. no_ok (why unfit_size) (Some t) h,
  λ h. absurd (true≢false (sym h.1 ∙ (ap (λ x. leb (nodes x) value_limit) (sym (same_tree u t (coerced form g s) is ((coerced_iff form g s t).1 h.0))) ∙ e))),
)

answer_iff : (why : Unfit → Refusal) (form : ℕ → InputForm) (g : Given) (s : ShapeTree) (a : Answer CoercedTree) → coerced form g s ≡ a → (o : Option CoercedTree) → Iff (given_value why (fitting a) ≡ Ok o) (IsFitting form g s o)
answer_iff why form g s (Ok u) is o = sized_iff why form g s u (leb (nodes u) value_limit) is refl o
answer_iff why form g s (Err path) is None = (λ h. no_ok _ None h, λ h. absurd h)
answer_iff why form g s (Err path) is (Some t) = (λ h. no_ok _ (Some t) h, λ h. no_tree path t (coerced form g s) is ((coerced_iff form g s t).1 h.0))

fitting_iff : (why : Unfit → Refusal) (form : ℕ → InputForm) (g : Given) (s : ShapeTree) (o : Option CoercedTree) → Iff (given_value why (fitting (coerced form g s)) ≡ Ok o) (IsFitting form g s o)
fitting_iff why form g s o = answer_iff why form g s (coerced form g s) refl o

without_iff : (name : List ℕ) (nullable : Bool) (o : Option CoercedTree) → Iff (no_value name nullable ≡ Ok o) (IsWithout nullable o)
without_iff name true o = (λ h. (refl, sym (ok_same None o h)), λ h. ap Ok (sym h.1))
without_iff name false o = (λ h. no_ok (missing name) o h, λ h. absurd (true≢false (sym h.0)))

-- ## Variables

default_iff : (form : ℕ → InputForm) (v : Declared) (d : Option ValueTree) (o : Option CoercedTree) → Iff (default_answer form v.name v.shape d ≡ Ok o) (IsDefault form v d o)
default_iff form v (Some literal) o = fitting_iff (variable_refusal v.name) form (literal_given no_variables literal) v.shape o
default_iff form v None o = without_iff v.name (is_nullable v.shape) o

value_iff : (form : ℕ → InputForm) (v : Declared) (json : Option Data) (o : Option CoercedTree) → Iff (value_answer form v json ≡ Ok o) (IsValue form v json o)
value_iff form v (Some json) o = fitting_iff (variable_refusal v.name) form (json_given json) v.shape o
value_iff form v None o = default_iff form v v.default o

named_iff : (name : List ℕ) (a : Result (Option CoercedTree) Refusal) (Is : Option CoercedTree → Type 0) → ((o : Option CoercedTree) → Iff (a ≡ Ok o) (Is o)) → (x : VariableData) → Iff (named_answer name a ≡ Ok x) ((x.name ≡ name) × Is x.value)
named_iff name (Ok o) Is each x = (
  λ h. let e = ok_same record { name = name; value = o } x h in (sym (ap (λ y. y.name) e), (each x.value).0 (ap (λ y. Ok y.value) e)),
  λ h. ap₂ (λ n y. Ok record { name = n; value = y }) (sym h.0) (ok_same o x.value ((each x.value).1 h.1)),
)
named_iff name (Err r) Is each x = (λ h. no_ok r x h, λ h. no_ok r x.value ((each x.value).1 h.1))

pub variable_iff : (form : ℕ → InputForm) (given : Data) (v : Declared) (x : VariableData) → Iff (variable_answer form given v ≡ Ok x) (IsVariable form given v x)
variable_iff form given v x = named_iff v.name (value_answer form v (get v.name given)) (λ o. IsValue form v (get v.name given) o) (λ o. value_iff form v (get v.name given) o) x

-- ## Arguments

or_none_iff : (i : InputData) (d o : Option CoercedTree) → Iff (default_or_none i d ≡ Ok o) (IsArgumentDefault i d o)
or_none_iff i (Some t) o = (λ h. sym (ok_same (Some t) o h), λ h. ap Ok (sym h))
or_none_iff i None o = without_iff i.name (is_nullable i.shape) o

marked_iff : (supplied : Bool) (a : Result (Option CoercedTree) Refusal) (Is : Option CoercedTree → Type 0) → ((o : Option CoercedTree) → Iff (a ≡ Ok o) (Is o)) → (x : ArgData) → Iff (marked supplied a ≡ Ok x) ((x.supplied ≡ supplied) × Is x.value)
marked_iff supplied (Ok o) Is each x = (
  λ h. let e = ok_same record { value = o; supplied = supplied } x h in (sym (ap (λ y. y.supplied) e), (each x.value).0 (ap (λ y. Ok y.value) e)),
  λ h. ap₂ (λ b y. Ok record { value = y; supplied = b }) (sym h.0) (ok_same o x.value ((each x.value).1 h.1)),
)
marked_iff supplied (Err r) Is each x = (λ h. no_ok r x h, λ h. no_ok r x.value ((each x.value).1 h.1))

unsupplied_iff : (i : InputData) (x : ArgData) → Iff (marked false (default_or_none i i.default) ≡ Ok x) ((x.supplied ≡ false) × IsArgumentDefault i i.default x.value)
unsupplied_iff i x = marked_iff false (default_or_none i i.default) (λ o. IsArgumentDefault i i.default o) (λ o. or_none_iff i i.default o) x

written_iff : (form : ℕ → InputForm) (i : InputData) (nothing : Bool) (g : Given) (x : ArgData)
    → Iff (cond nothing (marked false (default_or_none i i.default)) (marked true (given_value (argument_refusal i.name) (fitting (coerced form g i.shape)))) ≡ Ok x) (IsWritten form i nothing g x)
written_iff form i true g x = unsupplied_iff i x
written_iff form i false g x = marked_iff true (given_value (argument_refusal i.name) (fitting (coerced form g i.shape))) (λ o. IsFitting form g i.shape o) (λ o. fitting_iff (argument_refusal i.name) form g i.shape o) x

pub argument_iff : (form : ℕ → InputForm) (i : InputData) (g : Option Given) (x : ArgData) → Iff (argument_answer form i g ≡ Ok x) (IsArgument form i g x)
argument_iff form i None x = unsupplied_iff i x
argument_iff form i (Some g) x = written_iff form i (is_nothing g) g x

-- ## One after another

abbrev no_others : {A : Type 0} → List A
no_others = []

nothing_in_front : {A : Type 0} (x : A) (xs : List A) → no_others ≡ x ∷ xs → ⊥
nothing_in_front x xs e = cc

both_ok : {A : Type 0} (a : Result A Refusal) (b : Result (List A) Refusal) (y : A) (ys : List A) → Iff (and_then a b ≡ Ok (y ∷ ys)) ((a ≡ Ok y) × (b ≡ Ok ys))
both_ok (Ok x) (Ok xs) y ys = (
  λ h. let e = first_same x y xs ys (ok_same (x ∷ xs) (y ∷ ys) h) in (ap Ok e.0, ap Ok e.1),
  λ h. ap₂ (λ p ps. Ok (p ∷ ps)) (ok_same x y h.0) (ok_same xs ys h.1),
)
both_ok (Ok x) (Err r) y ys = (λ h. no_ok r (y ∷ ys) h, λ h. no_ok r ys h.1)
both_ok (Err r) b y ys = (λ h. no_ok r (y ∷ ys) h, λ h. no_ok r y h.0)

never_nothing : {A B : Type 0} (a : Result A Refusal) (b : Result (List A) Refusal) → and_then a b ≡ Ok [] → B
never_nothing (Ok x) (Ok xs) e = absurd (nothing_in_front x xs (sym (ok_same (x ∷ xs) [] e)))
never_nothing (Ok x) (Err r) e = no_ok r [] e
never_nothing (Err r) b e = no_ok r [] e

pub all_iff : {D A : Type 0} (answer : D → Result A Refusal) (Is : D → A → Type 0) → ((d : D) (x : A) → Iff (answer d ≡ Ok x) (Is d x)) → (ds : List D) (xs : List A) → Iff (all_in_order answer ds ≡ Ok xs) (AreAll Is ds xs)
all_iff answer Is each [] [] = (λ h. tt, λ h. refl)
all_iff answer Is each [] (x ∷ xs) = (λ h. absurd (nothing_in_front x xs (ok_same [] (x ∷ xs) h)), λ h. absurd h)
all_iff answer Is each (d ∷ ds) [] = (λ h. never_nothing (answer d) (all_in_order answer ds) h, λ h. absurd h)
all_iff answer Is each (d ∷ ds) (x ∷ xs) = (
  λ h. let e = (both_ok (answer d) (all_in_order answer ds) x xs).0 h in ((each d x).0 e.0, (all_iff answer Is each ds xs).0 e.1),
  λ h. (both_ok (answer d) (all_in_order answer ds) x xs).1 ((each d x).1 h.0, (all_iff answer Is each ds xs).1 h.1),
)
