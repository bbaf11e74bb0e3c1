-- Arguments and types of the program, opened by one level.
use Rattle.std.proofs.Common.{◌≡◌, Bool, true, false, ap, Box, Global, bytes_eq}
use Rattle.std.specs.Prelude.{codes, ◌&&◌}
use Rattle.gql_base.specs.declared.parts.trees.Name.{Name}
use Rattle.gql_base.specs.declared.parts.trees.TypeRef.{TypeRef}
use Rattle.gql_base.specs.declared.parts.trees.TypeRef.TheBlock.{Named}
use Rattle.gql_base.specs.declared.parts.trees.TypeRef.TheViews.{ListOf, NonNull}
use Rattle.gql_base.specs.parts.Trees.{identifier_of, type_tree}
use Rattle.gql_base.proofs.PartLaws.ValueSteps.{list_type_tree, non_null_tree, named_type_tree}
use Rattle.gql_base.proofs.PrintingLaws.PrintSteps.{open_argument}
use Rattle.input_values.specs.inputs.Shapes.{ShapeTree}
use Rattle.schema_model.specs.SchemaData.{SchemaData, type_at}
use Rattle.document_rules.specs.Rules.{named_in}
use Rattle.document_rules.specs.VariablePlaces.{fits, fits_name, fits_list, fits_condition}

pub ruleset opened_arguments = (open_argument)

pub named_here : (n : Name) → named_in (type_tree (Named n)) ≡ identifier_of n
unfolding named_in
named_here n = ap named_in (named_type_tree n)

pub named_in_list : (b : Box TypeRef Global) → named_in (type_tree (ListOf b)) ≡ named_in (type_tree b.value)
unfolding named_in
named_in_list b = ap named_in (list_type_tree b)

pub named_in_non_null : (b : Box TypeRef Global) → named_in (type_tree (NonNull b)) ≡ named_in (type_tree b.value)
unfolding named_in
named_in_non_null b = ap named_in (non_null_tree b)

pub ruleset named_levels = (named_here, named_in_list, named_in_non_null)

pub fits_named : (s : SchemaData) (never_null : Bool) (n : Name) (place : ShapeTree) → fits s never_null (type_tree (Named n)) place ≡ fits_name (λ of. bytes_eq n.text (type_at s of).name) never_null place
unfolding fits
fits_named s never_null n place = ap (λ t. fits s never_null t place) (named_type_tree n)

pub fits_listed : (s : SchemaData) (never_null : Bool) (b : Box TypeRef Global) (place : ShapeTree) → fits s never_null (type_tree (ListOf b)) place ≡ fits_list (fits s false (type_tree b.value)) never_null place
unfolding fits
fits_listed s never_null b place = ap (λ t. fits s never_null t place) (list_type_tree b)

pub fits_non_null : (s : SchemaData) (never_null : Bool) (b : Box TypeRef Global) (place : ShapeTree) → fits s never_null (type_tree (NonNull b)) place ≡ fits s true (type_tree b.value) place
unfolding fits
fits_non_null s never_null b place = ap (λ t. fits s never_null t place) (non_null_tree b)

pub ruleset fits_levels = (fits_named, fits_listed, fits_non_null)

pub condition_named : (never_null : Bool) (n : Name) → fits_condition never_null (type_tree (Named n)) ≡ (never_null && bytes_eq n.text (codes "Boolean"))
unfolding fits_condition
condition_named never_null n = ap (fits_condition never_null) (named_type_tree n)

pub condition_listed : (never_null : Bool) (b : Box TypeRef Global) → fits_condition never_null (type_tree (ListOf b)) ≡ false
unfolding fits_condition
condition_listed never_null b = ap (fits_condition never_null) (list_type_tree b)

pub condition_non_null : (never_null : Bool) (b : Box TypeRef Global) → fits_condition never_null (type_tree (NonNull b)) ≡ fits_condition true (type_tree b.value)
unfolding fits_condition
condition_non_null never_null b = ap (fits_condition never_null) (non_null_tree b)

pub ruleset condition_levels = (condition_named, condition_listed, condition_non_null)
