-- The types of the schema of schemas, by their numbers in it, and the weights of its fields.
use Rattle.std.specs.Prelude.{ℕ}
use Rattle.cost_num.specs.declared.TheConstants.{UNIT}
use Rattle.schema_facts.specs.declared.table.What.{What}
use Rattle.schema_facts.specs.declared.table.What.TheVariants as what
use Rattle.schema_facts.specs.Things.{ThingData, the_root, the_schema, a_type, a_list_type, a_non_null_type, a_field, an_input, an_enum_value, a_directive, a_word, a_flag, a_default}

-- The number of the object type that a thing is of: `__TypeKind` has the number 3, `__DirectiveLocation` the number 8, and no leaf is an object.
abbrev pub number_of : ThingData → ℕ
number_of the_root = 0
number_of the_schema = 1
number_of (a_type number) = 2
number_of (a_list_type of) = 2
number_of (a_non_null_type of) = 2
number_of (a_field f) = 4
number_of (an_input v) = 5
number_of (an_enum_value v) = 6
number_of (a_directive d) = 7
number_of (a_word text) = 8
number_of (a_flag is) = 8
number_of (a_default value) = 8

-- a field weighs one where objects stand below it
abbrev pub weight_of : What → ℕ
weight_of what.Schema = UNIT
weight_of (what.Named of) = UNIT
weight_of what.Types = UNIT
weight_of what.QueryType = UNIT
weight_of what.MutationType = UNIT
weight_of what.SubscriptionType = UNIT
weight_of what.Directives = UNIT
weight_of (what.Fields all) = UNIT
weight_of what.Interfaces = UNIT
weight_of what.PossibleTypes = UNIT
weight_of (what.EnumValues all) = UNIT
weight_of what.InputFields = UNIT
weight_of what.OfType = UNIT
weight_of what.Args = UNIT
weight_of what.FieldType = UNIT
weight_of other = 0
