-- The schema of schemas, as it is built of its text.
use Rattle.std.specs.Prelude.{◌≡◌, ℕ, List, Ok}
use Rattle.schema_reader.specs.Schemas.{DefinitionTree}
use Rattle.schema_reader.specs.SchemaAnswers.{HasSchema}
use Rattle.schema_model.specs.declared.schema.Schema.{Schema}
use Rattle.schema_model.specs.SchemaViews.{schema_data}
use Rattle.schema_model.specs.Faults.{MetaSchemaBuilds}
use Rattle.cost_directives.specs.Weights.{weights_of}
use Rattle.cost_directives.specs.WeightViews.{weights_data}
use Rattle.plan_model.specs.SelectedFields.{Setting}
use Rattle.schema_facts.specs.MetaText.{meta_text}
use Rattle.meta_schema.specs.declared.schema.MetaSchema.{MetaSchema}
use Rattle.meta_schema.specs.TestedSchemas.{name_of_queries}

-- The schema is what the text says whose type of queries has this name.
pub record IsOfMetaText (query : List ℕ) (schema : Schema) : Type 0 where
  pub trees : List DefinitionTree
  pub read : HasSchema (meta_text query) trees
  pub built : MetaSchemaBuilds trees (Ok schema)

-- It is that schema, with the usual weights.
pub record IsMetaSchema (query : List ℕ) (m : MetaSchema) : Type 0 where
  pub schema : IsOfMetaText query m.schema
  pub weights : weights_data m.weights ≡ weights_of (schema_data m.schema) 1
  pub named : name_of_queries (schema_data m.schema) ≡ query

-- An operation is planned by it.
pub record IsOver (m : MetaSchema) (e : Setting) : Type 0 where
  pub schema : e.schema ≡ schema_data m.schema
  pub weights : e.weights ≡ weights_data m.weights
