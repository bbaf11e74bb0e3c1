-- What a schema of the program stands for.
use Rattle.std.specs.Prelude.{map, option_map}
use Rattle.schema_model.specs.declared.schema.Schema.{Schema}
use Rattle.schema_model.specs.Numbers.{type_number}
use Rattle.schema_model.specs.SchemaData.{SchemaData}
use Rattle.schema_model.specs.Entries.{type_data, field_data}

-- the data of a schema
abbrev pub schema_data : Schema → SchemaData
schema_data s = record {
  types = map type_data s.types.items.items;
  fields = map field_data s.fields.items;
  other_type = type_data s.other_type;
  other_field = field_data s.other_field;
  directives = s.directives.items.items;
  defined = s.defined;
  query = s.query.number;
  mutation = option_map type_number s.mutation;
  subscription = option_map type_number s.subscription;
}
