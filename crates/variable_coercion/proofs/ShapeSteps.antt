-- Types that are written and their shapes, level after level.
use Rattle.std.proofs.Common.{◌≡◌, Bool, true, false, ap, Box, Global}
use Rattle.gql_base.specs.declared.parts.trees.Name.{Name}
use Rattle.gql_base.specs.declared.parts.trees.TypeRef.{TypeRef}
use Rattle.gql_base.specs.declared.parts.trees.TypeRef.TheBlock.{Named}
use Rattle.gql_base.specs.declared.parts.trees.TypeRef.TheViews.{ListOf, NonNull}
use Rattle.gql_base.specs.parts.Trees.{type_tree}
use Rattle.gql_base.proofs.PartLaws.ValueSteps.{list_type_tree, non_null_tree, named_type_tree}
use Rattle.input_values.specs.inputs.Shapes.{named_shape, list_shape, shape_by}
use Rattle.input_values.proofs.ShapeTrees.{named_made, list_made}
use Rattle.schema_model.specs.SchemaData.{SchemaData}
use Rattle.variable_coercion.specs.Variables.{number_in}

pub named_in : (s : SchemaData) (n : Bool) (name : Name) → shape_by (number_in s) n (type_tree (Named name)) ≡ named_shape (number_in s name.text) n
unfolding shape_by
named_in s n name = ap (shape_by (number_in s) n) (named_type_tree name)

pub list_in : (s : SchemaData) (n : Bool) (b : Box TypeRef Global) → shape_by (number_in s) n (type_tree (ListOf b)) ≡ list_shape (shape_by (number_in s) true (type_tree b.value)) n
unfolding shape_by
list_in s n b = ap (shape_by (number_in s) n) (list_type_tree b)

pub non_null_in : (s : SchemaData) (n : Bool) (b : Box TypeRef Global) → shape_by (number_in s) n (type_tree (NonNull b)) ≡ shape_by (number_in s) false (type_tree b.value)
unfolding shape_by
non_null_in s n b = ap (shape_by (number_in s) n) (non_null_tree b)

pub ruleset shape_steps = (named_in, list_in, non_null_in, named_made, list_made)
