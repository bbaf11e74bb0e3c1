-- What types and fields weigh, in millionths (IBM GraphQL Cost Directives Specification, `@cost`).
use Rattle.std.specs.Prelude.{ℕ, Bool, true, false, nat_eq, ◌&&◌, List, [], ◌∷◌, map, Option, None, Some}
use Rattle.std.specs.List.{list_all}
use Rattle.cost_num.specs.declared.TheConstants.{UNIT}
use Rattle.input_values.specs.inputs.Shapes.{ShapeTree, named_shape, list_shape}
use Rattle.schema_rules.specs.declared.kind.Kind.{Kind}
use Rattle.schema_rules.specs.declared.kind.Kind.TheVariants.{Scalar, Object, Interface, Union, Enum, Input}
use Rattle.cost_directives.specs.Readings.{weight_in}
use Rattle.schema_model.specs.SchemaData.{FieldData, TypeData, SizeData, SchemaData, type_at, field_at, field_named}

-- ---- types

-- Interfaces and unions have no weight, since a value counts by its own object type; input objects are no values of a response.
abbrev pub usual_weight_of_type : Kind → ℕ
usual_weight_of_type Object = UNIT
usual_weight_of_type Scalar = 0
usual_weight_of_type Enum = 0
usual_weight_of_type Interface = 0
usual_weight_of_type Union = 0
usual_weight_of_type Input = 0

abbrev pub weight_or : ℕ → Option ℕ → ℕ
weight_or usual None = usual
weight_or usual (Some weight) = weight

abbrev pub weight_of_type : TypeData → ℕ
weight_of_type t = weight_or (usual_weight_of_type t.kind) (weight_in t.cost)

-- the named type inside of a type
unfoldable pub type_inside : ShapeTree → ℕ
type_inside (named_shape of nullable) = of
type_inside (list_shape item nullable) = type_inside item

abbrev pub is_list_shape : ShapeTree → Bool
is_list_shape (named_shape of nullable) = false
is_list_shape (list_shape item nullable) = true

-- the type that a field returns, through a list or not
abbrev pub returned : SchemaData → FieldData → TypeData
returned s f = type_at s (type_inside f.shape)

abbrev pub is_leaf : Kind → Bool
is_leaf Scalar = true
is_leaf Enum = true
is_leaf Object = false
is_leaf Interface = false
is_leaf Union = false
is_leaf Input = false

-- ---- what a field takes from the interfaces of its type

-- the first that is carried
abbrev pub first_carried : {A : Type 0} → List (Option A) → Option A
first_carried [] = None
first_carried (None ∷ others) = first_carried others
first_carried (Some a ∷ others) = Some a

abbrev pub carries_like : {A : Type 0} → (A → A → Bool) → A → Option A → Bool
carries_like same a None = true
carries_like same a (Some b) = same a b

abbrev pub all_like : {A : Type 0} → (A → A → Bool) → Option A → List (Option A) → Bool
all_like same None carried = true
all_like same (Some a) carried = list_all (carries_like same a) carried

-- whether all that carry one carry the same
abbrev pub all_agree : {A : Type 0} → (A → A → Bool) → List (Option A) → Bool
all_agree same carried = all_like same (first_carried carried) carried

abbrev pub carried_by : {A : Type 0} → SchemaData → (FieldData → Option A) → Option ℕ → Option A
carried_by s own None = None
carried_by s own (Some field) = own (field_at s field)

-- what the field of this name in an interface carries
abbrev pub carried_in : {A : Type 0} → SchemaData → (FieldData → Option A) → List ℕ → ℕ → Option A
carried_in s own name interface = carried_by s own (field_named s interface name)

-- what the fields of its name carry in the interfaces that a field's type implements, in their order
abbrev pub carried_above : {A : Type 0} → SchemaData → (FieldData → Option A) → FieldData → List (Option A)
carried_above s own f = map (carried_in s own f.name) (type_at s f.owner).interfaces

abbrev pub own_or : {A : Type 0} → Option A → Option A → Option A
own_or (Some a) above = Some a
own_or None above = above

-- what a field has: its own, or that of the interfaces
abbrev pub inherited : {A : Type 0} → SchemaData → (FieldData → Option A) → FieldData → Option A
inherited s own f = own_or (own f) (first_carried (carried_above s own f))

abbrev pub agrees_above : {A : Type 0} → (A → A → Bool) → Option A → List (Option A) → Bool
agrees_above same (Some a) carried = true
agrees_above same None carried = all_agree same carried

-- whether it is clear what a field has: its own, or what all interfaces say that say something
abbrev pub is_clear : {A : Type 0} → SchemaData → (FieldData → Option A) → (A → A → Bool) → FieldData → Bool
is_clear s own same f = agrees_above same (own f) (carried_above s own f)

-- ---- fields

abbrev pub own_weight : FieldData → Option ℕ
own_weight f = weight_in f.cost

abbrev pub own_size : FieldData → Option SizeData
own_size f = f.size

-- a field that returns leaves weighs nothing, and any other 1
abbrev pub usual_weight_of_field : Kind → ℕ
usual_weight_of_field Object = UNIT
usual_weight_of_field Interface = UNIT
usual_weight_of_field Union = UNIT
usual_weight_of_field Scalar = 0
usual_weight_of_field Enum = 0
usual_weight_of_field Input = 0

abbrev pub weight_of_field : SchemaData → FieldData → ℕ
weight_of_field s f = weight_or (usual_weight_of_field (returned s f).kind) (inherited s own_weight f)

-- whether a field is a list of leaves that weigh nothing
abbrev pub is_free_list : SchemaData → FieldData → Bool
is_free_list s f = is_list_shape f.shape && (is_leaf (returned s f).kind && nat_eq (weight_of_type (returned s f)) 0)
