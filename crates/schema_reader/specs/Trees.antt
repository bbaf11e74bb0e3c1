-- What schema texts of the program and their parts stand for.
use Rattle.std.specs.Prelude.{List, map}
use Rattle.gql_base.specs.parts.Trees.{type_tree, directive_tree, maybe_value}
use Rattle.schema_reader.specs.declared.trees.SchemaText.{SchemaText}
use Rattle.schema_reader.specs.declared.trees.SchemaDef.{SchemaDef}
use Rattle.schema_reader.specs.declared.trees.DefBody.{DefBody}
use Rattle.schema_reader.specs.declared.trees.DefBody.TheVariants.{Schema, Scalar, Object, Interface, Union, Enum, Input, Directive as DirectiveBody}
use Rattle.schema_reader.specs.declared.trees.RootDef.{RootDef}
use Rattle.schema_reader.specs.declared.trees.FieldDef.{FieldDef}
use Rattle.schema_reader.specs.declared.trees.InputValue.{InputValue}
use Rattle.schema_reader.specs.declared.trees.EnumValueDef.{EnumValueDef}
use Rattle.schema_reader.specs.declared.type_definitions.NamedDef.{NamedDef}
use Rattle.schema_reader.specs.declared.type_definitions.FieldedType.{FieldedType}
use Rattle.schema_reader.specs.Schemas.{RootTree, InputDefTree, FieldDefTree, EnumValueTree, NamedBody, FieldedTree, BodyTree, schema_body, scalar_body, object_body, interface_body, union_body, enum_body, input_body, directive_body, DefinitionTree}

abbrev pub root_tree : RootDef → RootTree
root_tree r = (r.kind, r.name)

abbrev pub input_tree : InputValue → InputDefTree
input_tree v = (v.description, v.name, type_tree v.of, maybe_value v.default, map directive_tree v.directives.items)

abbrev pub field_tree : FieldDef → FieldDefTree
field_tree f = (f.description, f.name, map input_tree f.arguments.items, type_tree f.of, map directive_tree f.directives.items)

abbrev pub enum_value_tree : EnumValueDef → EnumValueTree
enum_value_tree v = (v.description, (v.name, map directive_tree v.directives.items))

abbrev pub body_tree : DefBody → BodyTree
body_tree (Schema roots) = schema_body (map root_tree roots.items)
body_tree Scalar = scalar_body
body_tree (Object interfaces fields) = object_body interfaces.items (map field_tree fields.items)
body_tree (Interface interfaces fields) = interface_body interfaces.items (map field_tree fields.items)
body_tree (Union members) = union_body members.items
body_tree (Enum values) = enum_body (map enum_value_tree values.items)
body_tree (Input fields) = input_body (map input_tree fields.items)
body_tree (DirectiveBody arguments repeatable locations) = directive_body (map input_tree arguments.items) repeatable locations.items

-- what a definition has after its description
abbrev pub named_tree : NamedDef → NamedBody
named_tree d = (d.name, map directive_tree d.directives.items, body_tree d.body)

abbrev pub fielded_tree : FieldedType → FieldedTree
fielded_tree t = (t.name, (t.interfaces.items, (map directive_tree t.directives.items, map field_tree t.fields.items)))

abbrev pub definition_tree : SchemaDef → DefinitionTree
definition_tree d = (d.description, (d.name, map directive_tree d.directives.items, body_tree d.body))

-- the trees of a schema text
abbrev pub schema_trees : SchemaText → List DefinitionTree
schema_trees schema = map definition_tree schema.definitions.items
