-- No second type, directive, schema definition, root of one kind, field, argument, enum value, union member, interface or
-- input field has the name of one before it in its scope; and no type but a scalar has the name of a built-in scalar.
use Rattle.std.specs.Prelude.{ℕ, zero, suc, Bool, false, not, ◌&&◌, List, [], ◌∷◌, ◌++◌, map, min, Option, None, Some, codes}
use Rattle.std.specs.List.{position_from}
use Rattle.gql_base.specs.names.Names.{first_repeated}
use Rattle.gql_base.specs.declared.parts.trees.OperationKind.{OperationKind}
use Rattle.gql_base.specs.declared.parts.trees.OperationKind.TheVariants.{Query, Mutation, Subscription}
use Rattle.schema_rules.specs.Kinds.{is_scalar}
use Rattle.schema_rules.specs.Places.{PlaceTree, place_text}
use Rattle.schema_rules.specs.Items.{ItemTree, schema_item, root_item, type_item, interface_item, member_item, field_item, argument_item, field_type_item, enum_value_item, input_field_item, directive_item, directive_argument_item, place_of}
use Rattle.schema_rules.specs.TypeNames.{is_built_in}

abbrev pub kind_key : OperationKind → List ℕ
kind_key Query = codes "schema query"
kind_key Mutation = codes "schema mutation"
kind_key Subscription = codes "schema subscription"

-- two names, with a mark between them that no name holds
abbrev pub paired : List ℕ → ℕ → List ℕ → List ℕ
paired of mark name = of ++ (mark ∷ name)

-- The scope and the name of a thing as one text: things of equal texts have one name in one scope. It is the thing's place
-- but where several things share one, and but for the schema definition, since a type may be named `schema`.
abbrev pub key_of : ItemTree → List ℕ
key_of (schema_item directives) = codes " schema"
key_of (root_item kind name) = kind_key kind
key_of (type_item name kind is_empty directives) = place_text (place_of (type_item name kind is_empty directives))
key_of (interface_item of name) = paired of 38 name
key_of (member_item of name) = paired of 124 name
key_of (field_item of name) = place_text (place_of (field_item of name))
key_of (argument_item of field input) = place_text (place_of (argument_item of field input))
key_of (field_type_item of name type directives) = paired (place_text (place_of (field_item of name))) 58 []
key_of (enum_value_item of name directives) = place_text (place_of (enum_value_item of name directives))
key_of (input_field_item of input) = place_text (place_of (input_field_item of input))
key_of (directive_item name) = place_text (place_of (directive_item name))
key_of (directive_argument_item directive input) = place_text (place_of (directive_argument_item directive input))

-- whether a thing is a type other than a scalar with the name of a built-in scalar
abbrev pub takes_built_in : ItemTree → Bool
takes_built_in (type_item name kind is_empty directives) = not (is_scalar kind) && is_built_in name
takes_built_in (schema_item directives) = false
takes_built_in (root_item kind name) = false
takes_built_in (interface_item of name) = false
takes_built_in (member_item of name) = false
takes_built_in (field_item of name) = false
takes_built_in (argument_item of field input) = false
takes_built_in (field_type_item of name type directives) = false
takes_built_in (enum_value_item of name directives) = false
takes_built_in (input_field_item of input) = false
takes_built_in (directive_item name) = false
takes_built_in (directive_argument_item directive input) = false

-- the lesser of two numbers that may be there
abbrev pub earlier : Option ℕ → Option ℕ → Option ℕ
earlier None other = other
earlier (Some a) None = Some a
earlier (Some a) (Some b) = Some (min a b)

abbrev pub place_at : List ItemTree → Option ℕ → Option PlaceTree
place_at items None = None
place_at [] (Some n) = None
place_at (i ∷ items) (Some zero) = Some (place_of i)
place_at (i ∷ items) (Some (suc n)) = place_at items (Some n)

-- the place of the first thing that repeats a name
abbrev pub repeated : List ItemTree → Option PlaceTree
repeated items = place_at items (earlier (first_repeated (map key_of items)) (position_from takes_built_in 0 items))
