-- What rules look things up in.
use Rattle.std.specs.Prelude.{List, map}
use Rattle.document_reader.specs.Documents.{VariableTree}
use Rattle.schema_model.specs.SchemaData.{SchemaData}
use Rattle.schema_model.specs.SchemaViews.{schema_data}
use Rattle.document_rules.specs.declared.checking.Names.{Names}
use Rattle.document_rules.specs.declared.rules.variable_place.VariablePlace.{VariablePlace}
use Rattle.document_rules.specs.Parts.{FragmentData}
use Rattle.document_rules.specs.Met.{Met}
use Rattle.document_rules.specs.Views.{declared_tree, defined_data, met_data}

-- the rule on places of variables

abbrev pub schema_of : VariablePlace → SchemaData
schema_of rule = schema_data rule.schema.now

abbrev pub variables_of : VariablePlace → List VariableTree
variables_of rule = map declared_tree rule.variables.now.items.items

-- the rules on parts of an operation

abbrev pub schema_named : Names → SchemaData
schema_named names = schema_data names.schema.now

abbrev pub fragments_named : Names → List FragmentData
fragments_named names = map defined_data names.fragments.now.items.items

abbrev pub met_named : Names → List Met
met_named names = map met_data names.met.now

abbrev pub variables_named : Names → List VariableTree
variables_named names = map declared_tree names.variables.now.items.items
