-- The source of a node's size tells that size.
use Rattle.std.proofs.Common.{◌≡◌, ℕ, List, Option, Some, Result, Ok, Err, refl, sym, ap, ◌∙◌, subst, option_map}
use Rattle.response_model.specs.Plan.{Form, single, listed}
use Rattle.schema_rules.specs.First.{or_else}
use Rattle.schema_model.specs.Arguments.{ArgData}
use Rattle.cost_directives.specs.declared.sizes.Size.{Size}
use Rattle.cost_directives.specs.declared.sizes.SizeFault.{SizeFault}
use Rattle.cost_directives.specs.declared.sources.SizeSource.{SizeSource}
use Rattle.cost_directives.specs.SizeSources.{size_told, size_source_in}
use Rattle.cost_directives.specs.Weights.{field_in, declared_size_in}
use Rattle.cost_directives.proofs.ToldSizes.{told}
use Rattle.document_rules.specs.Sites.{known_field}
use Rattle.plan_model.specs.SelectedFields.{Setting, HandedSize, form_of, handed_in, size_in, length_in, fault_in}
use Rattle.plan_model.specs.Visits.{refused_size}
use Rattle.plan_table.specs.ListSizes.{size_from}
use Rattle.merged_selections.specs.declared.why.Why.{Why}
use Rattle.merged_selections.specs.NodeParts.{is_listed, has_lists}
use Rattle.merged_selections.specs.NodeTests.{Looks, SizesAlike, where_listed, source_at, own_size, fault_after_size, fault_after_arguments}

by_form : (form : Form) (answer : Result Size SizeFault) (source : SizeSource) (size : Size) → size_told source ≡ size → answer ≡ Ok size → size_from (where_listed (is_listed form) source) ≡ size_in form answer
by_form (single nullable) answer source size tells is = refl
by_form (listed nullable item_nullable) answer source size tells is = ap (λ (s : Size). length_in (Ok s)) tells ∙ ap length_in (sym is)

source_tells : (e : Setting) (field : ℕ) (args : List ArgData) (taken : Option ℕ) (size : Size) → declared_size_in e.weights field args taken ≡ Ok size
    → size_from (source_at e field args taken) ≡ size_in (form_of e.schema (known_field field)) (declared_size_in e.weights field args taken)
source_tells e field args taken size is =
    by_form (form_of e.schema (known_field field)) (declared_size_in e.weights field args taken) (size_source_in e.weights field args taken) size
    (told (field_in e.weights field).size e.weights.undeclared args taken size is) is

-- a call's size is found by what it holds
module _ (e : Setting) (field : ℕ) (handed : HandedSize) (name : List ℕ) (args held : List ArgData) (alike : SizesAlike e field held args) (taken : Option ℕ) (hands : taken ≡ handed_in (form_of e.schema (known_field field)) handed name) (answer : Result Size SizeFault)
    (asked : answer ≡ declared_size_in e.weights field held taken) where
  size_is : answer ≡ own_size e field handed name args
  size_is = asked ∙ (alike.sizes taken ∙ ap (λ t. declared_size_in e.weights field args t) hands)

  -- What is looked at behind the size is so behind the arguments too, where the size has no fault.
  pub looks_past_size : {X : Type 0} (P : X → Type 0) (result : Result X Why) (size : Size) (source : Option SizeSource) → answer ≡ Ok size → source ≡ source_at e field held taken
      → (size_from source ≡ size_in (form_of e.schema (known_field field)) (own_size e field handed name args) → Looks P result (fault_after_size e field handed name args)) → Looks P result (fault_after_arguments e field handed name args)
  looks_past_size P result size source is from looks =
      subst (λ (a : Result Size SizeFault). Looks P result (or_else (option_map refused_size (fault_in a)) (fault_after_size e field handed name args)))
      (sym is ∙ size_is)
      (looks (ap size_from (from ∙ ap (where_listed (has_lists e.schema field)) (alike.sources taken)) ∙ (source_tells e field args taken size (sym (asked ∙ alike.sizes taken) ∙ is) ∙ ap (λ t. size_in (form_of e.schema (known_field field)) (declared_size_in e.weights field args t)) hands)))

  -- and its fault is told, where it has one
  pub size_is_told : (fault : SizeFault) → answer ≡ Err fault → fault_after_arguments e field handed name args ≡ Some (refused_size fault)
  size_is_told fault is = ap (λ (a : Result Size SizeFault). or_else (option_map refused_size (fault_in a)) (fault_after_size e field handed name args)) (sym size_is ∙ is)
