-- Truth values that are opened.
use Rattle.std.proofs.Common.{◌≡◌, ◌<◌, ◌≤◌, ◌+◌, ℕ, List, ◌∷◌, map, drop, length, get_or, bytes_eq, Bool, true, false, Option, None, refl, sym, ap, ◌∙◌, codes, if◌then◌else◌}
use Rattle.std.specs.Prelude.{option_and_then}
use Rattle.std.proofs.lemmas.List.{drop_all}
use Rattle.gql_base.specs.declared.parts.trees.Argument.{Argument}
use Rattle.gql_base.specs.names.Names.{first_of_name}
use Rattle.gql_base.specs.parts.Trees.{named_value, value_tree}
use Rattle.gql_base.specs.parts.Values.{NamedValue}
use Rattle.gql_base.proofs.Lists.{at_front}
use Rattle.gql_base.proofs.PartLaws.ValueSteps.{variable_tree, integer_tree, float_tree, string_tree, boolean_tree, null_tree, enum_tree, list_tree, object_tree}
use Rattle.gql_base.proofs.PrintingLaws.PrintSteps.{open_argument}
use Rattle.input_values.specs.coercion.Literals.{Environment}
use Rattle.input_values.proofs.CoercedTrees.{null_made, integer_made, float_made, string_made, boolean_made, enum_made, list_made, object_made, shared_made}
use Rattle.plan_model.specs.SelectedFields.{argument_name}
use Rattle.plan_model.specs.Collecting.{truth_in}

pub ruleset held = (null_made, integer_made, float_made, string_made, boolean_made, enum_made, list_made, object_made, shared_made)

pub ruleset written = (variable_tree, integer_tree, float_tree, string_tree, boolean_tree, null_tree, enum_tree, list_tree, object_tree)

-- the truth of the first argument `if`
abbrev pub truth_of_first : Environment → List Argument → Option Bool
truth_of_first values arguments = option_and_then (λ a. truth_in values a.1) (first_of_name argument_name (map named_value arguments) (codes "if"))

chosen : (values : Environment) (a : NamedValue) (others : List NamedValue) (b : Bool) → bytes_eq (argument_name a) (codes "if") ≡ b → option_and_then (λ x. truth_in values x.1) (first_of_name argument_name (a ∷ others) (codes "if")) ≡ (if b then truth_in values a.1 else option_and_then (λ x. truth_in values x.1) (first_of_name argument_name others (codes "if")))
chosen values a others true is = rw (is) refl
chosen values a others false is = rw (is) refl

pub first_here : (values : Environment) (arguments : List Argument) (at : ℕ) (a : Argument) (whole : Option Bool) → at < length arguments → a ≡ get_or arguments at a → bytes_eq a.name.text (codes "if") ≡ true
    → truth_of_first values (drop at arguments) ≡ whole → truth_in values (value_tree a.value) ≡ whole
first_here values arguments at a whole here is named before =
    sym (ap (λ xs. truth_of_first values xs) (at_front arguments at a here is) ∙ (chosen values (named_value a) (map named_value (drop (at + 1) arguments)) true (ap (λ v. bytes_eq (argument_name v) (codes "if")) (open_argument a) ∙ named) ∙ ap (λ v. truth_in values v.1) (open_argument a))) ∙ before

pub first_later : (values : Environment) (arguments : List Argument) (at : ℕ) (a : Argument) (whole : Option Bool) → at < length arguments → a ≡ get_or arguments at a → bytes_eq a.name.text (codes "if") ≡ false
    → truth_of_first values (drop at arguments) ≡ whole → truth_of_first values (drop (at + 1) arguments) ≡ whole
first_later values arguments at a whole here is named before =
    sym (ap (λ xs. truth_of_first values xs) (at_front arguments at a here is) ∙ chosen values (named_value a) (map named_value (drop (at + 1) arguments)) false (ap (λ v. bytes_eq (argument_name v) (codes "if")) (open_argument a) ∙ named)) ∙ before

pub none_first : (values : Environment) (arguments : List Argument) (at : ℕ) (whole : Option Bool) → length arguments ≤ at → truth_of_first values (drop at arguments) ≡ whole → None ≡ whole
none_first values arguments at whole past before = sym (ap (λ xs. truth_of_first values xs) (drop_all at arguments past)) ∙ before
