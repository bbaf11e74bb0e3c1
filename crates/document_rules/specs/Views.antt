-- What the program's sites stand for.
use Rattle.std.specs.Prelude.{◌==◌, ℕ, Bool, List, map, length, not, Option}
use Rattle.std.specs.Borrow.{Bor}
use Rattle.gql_base.specs.declared.parts.trees.Name.{Name}
use Rattle.gql_base.specs.ways.Reading.{Identifier}
use Rattle.gql_base.specs.parts.Trees.{identifier_of, named_value, directive_tree}
use Rattle.document_reader.specs.declared.trees.Fragment.{Fragment as FragmentOf}
use Rattle.document_reader.specs.Documents.{VariableTree}
use Rattle.document_reader.specs.Trees.{maybe_identifier, variable_tree}
use Rattle.document_rules.specs.declared.indexes.Declared.{Declared}
use Rattle.document_rules.specs.declared.indexes.Defined.{Defined}
use Rattle.document_rules.specs.declared.met.Met.{Met as MetFragment}
use Rattle.document_rules.specs.declared.met.Spread.{Spread as SpreadToCome}
use Rattle.document_rules.specs.declared.lookups.Meaning.{Meaning as FieldMeaning}
use Rattle.document_rules.specs.declared.lookups.Meaning.TheVariants.{NoPosition, NoSuchField, NameOfType, Known}
use Rattle.document_rules.specs.declared.lookups.Inputs.{Inputs}
use Rattle.document_rules.specs.declared.lookups.Inputs.TheVariants.{Arguments, Fields}
use Rattle.document_rules.specs.declared.sites.Site.{Site as Part}
use Rattle.document_rules.specs.declared.sites.Site.TheVariants.{Variable, Operation, Fragment, Field, Spread, Inline}
use Rattle.input_values.specs.declared.inputs.shape.Shape.{Shape}
use Rattle.input_values.specs.inputs.Shapes.{shape_tree}
use Rattle.input_values.specs.inputs.Definitions.{InputData}
use Rattle.schema_model.specs.SchemaData.{SchemaData, argument_named, input_field_named}
use Rattle.document_rules.specs.VariablePlaces.{Use}
use Rattle.document_rules.specs.Parts.{FragmentData, fragment_data}
use Rattle.document_rules.specs.Met.{Met, Spread as SpreadData}
use Rattle.document_rules.specs.Sites.{Meaning, no_position, no_such_field, name_of_type, known_field, Site, variable_site, operation_site, fragment_site, field_site, spread_site, inline_site}

abbrev pub seen_name : Bor Name → Identifier
seen_name name = identifier_of name.now

abbrev pub declared_tree : Declared → VariableTree
declared_tree d = variable_tree d.variable.now

abbrev pub defined_data : Defined → FragmentData
defined_data d = fragment_data d.fragment.now

abbrev pub defined_fragment : Defined → FragmentOf
defined_fragment d = d.fragment.now

abbrev pub spread_data : SpreadToCome → SpreadData
spread_data s = record { name = s.name.now; within = s.within }

abbrev pub met_data : MetFragment → Met
met_data m = record { fragment = m.number; within = m.within }

abbrev pub meaning_data : FieldMeaning → Meaning
meaning_data NoPosition = no_position
meaning_data NoSuchField = no_such_field
meaning_data NameOfType = name_of_type
meaning_data (Known field) = known_field field.number

abbrev pub site_data : Part → Site
site_data (Variable v) = variable_site (variable_tree v.now)
site_data (Operation o) = operation_site (map variable_tree o.now.variables.items) (map directive_tree o.now.directives.items)
site_data (Fragment f) = fragment_site (identifier_of f.now.on) (map directive_tree f.now.directives.items)
site_data (Field meaning f) = field_site (meaning_data meaning) (identifier_of f.now.name) (map named_value f.now.arguments.items) (map directive_tree f.now.directives.items) (not (length f.now.selections.items == 0))
site_data (Spread within name directives) = spread_site within (identifier_of name.now) (map directive_tree directives.now)
site_data (Inline on directives) = inline_site (maybe_identifier on.now) (map directive_tree directives.now)

-- a variable of the program at a place
abbrev pub use_at : Name → Shape → Bool → Use
use_at name place has_default = record { variable = identifier_of name; place = shape_tree place; has_default = has_default }

-- the argument of a field, or the field of an input object, of a name
abbrev pub input_in : SchemaData → Inputs → List ℕ → Option InputData
input_in s (Arguments field) = argument_named s field.number
input_in s (Fields of) = input_field_named s of.number
