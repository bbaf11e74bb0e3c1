-- Of what a gate keeps there is one proof each.
use Rattle.std.proofs.Common.{◌≡◌, ℕ, Bool, false, List, [], ◌∷◌, refl, ap}
use Rattle.std.specs.Coded.{Coded, code_by, coded_list, coded×, coded_ℕ, coded_bool, codes}
use Rattle.schema_rules.specs.declared.kind.Kind.{Kind}
use Rattle.schema_rules.specs.declared.kind.Kind.TheVariants.{Scalar, Object, Interface, Union, Enum, Input}
use Rattle.input_values.specs.inputs.Shapes.{ShapeTree, named_shape, list_shape}
use Rattle.schema_model.specs.SchemaData.{SchemaData, TypeData}
use Rattle.plan_model.specs.Sound.{HasName, CanFill, CanBeFilled}
use Rattle.cost_directives.specs.Weights.{WeightsData}

-- a shape as its levels
abbrev levels_of : ShapeTree → List (ℕ × Bool)
levels_of (named_shape of nullable) = (of, nullable) ∷ []
levels_of (list_shape item nullable) = (0, nullable) ∷ levels_of item

abbrev shape_of : List (ℕ × Bool) → ShapeTree
shape_of [] = named_shape 0 false
shape_of (level ∷ []) = named_shape level.0 level.1
shape_of (level ∷ next ∷ more) = list_shape (shape_of (next ∷ more)) level.1

pub shape_of-levels_of : (shape : ShapeTree) → shape_of (levels_of shape) ≡ shape
shape_of-levels_of (named_shape of nullable) = refl
shape_of-levels_of (list_shape (named_shape of inner) nullable) = refl
shape_of-levels_of (list_shape (list_shape item inner) nullable) = ap (λ shape. list_shape shape nullable) (shape_of-levels_of (list_shape item inner))

abbrev pub shape_code : Coded ShapeTree
shape_code = code_by (List (ℕ × Bool)) (coded_list (coded× coded_ℕ coded_bool)) levels_of shape_of shape_of-levels_of

pub weights-prop : (w v : WeightsData) → IsProp (w ≡ v)
weights-prop w v = hlevel (codes, shape_code)

name-prop : (names : List (List ℕ)) → IsProp (HasName names)
name-prop [] = hlevel codes
name-prop (name ∷ names) = hlevel codes

fill-prop : (kind : Kind) (t : TypeData) → IsProp (CanFill kind t)
fill-prop Enum t = name-prop t.values
fill-prop Scalar t = hlevel codes
fill-prop Object t = hlevel codes
fill-prop Interface t = hlevel codes
fill-prop Union t = hlevel codes
fill-prop Input t = hlevel codes

pub filled-prop : (s : SchemaData) → IsProp (CanBeFilled s)
filled-prop s = hlevel fill-prop
