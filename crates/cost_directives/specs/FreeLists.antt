-- Lists that may have any length.
use Rattle.std.specs.Prelude.{◌≡◌, true}
use Rattle.schema_model.specs.SchemaData.{FieldData, SchemaData}
use Rattle.cost_directives.specs.Weighing.{is_leaf, is_list_shape, type_inside, returned}
use Rattle.cost_directives.specs.Weights.{WeightsData, type_in}

-- A field is a list of leaves, and what is looked up as their weight is nothing.
pub record HoldsFreeLeaves (s : SchemaData) (w : WeightsData) (f : FieldData) : Type 0 where
  pub is_list : is_list_shape f.shape ≡ true
  pub of_leaves : is_leaf (returned s f).kind ≡ true
  pub free : (type_in w (type_inside f.shape)).weight ≡ 0
