-- What is kept of a schema of schemas that was built and has passed the test.
use Rattle.std.proofs.Common.{◌≡◌, ◌<◌, ℕ, true, List, map, length, Ok, refl, sym, ap, subst, ◌∙◌}
use Rattle.std.specs.Prelude.{codes}
use Rattle.std.specs.Str.{bytes_eq}
use Rattle.input_values.specs.coercion.Forms.{InputForm}
use Rattle.schema_reader.specs.Schemas.{DefinitionTree}
use Rattle.schema_rules.specs.Items.{ItemTree, items_of}
use Rattle.schema_rules.specs.TypeNames.{NamedKind, types_of}
use Rattle.schema_model.specs.declared.schema.Schema.{Schema}
use Rattle.schema_model.specs.Drafts.{TypeDraft, drafts_of}
use Rattle.schema_model.specs.Faults.{MetaSchemaBuilds}
use Rattle.schema_model.specs.SchemaData.{SchemaData, type_at, field_at}
use Rattle.schema_model.specs.SchemaViews.{schema_data}
use Rattle.schema_model.specs.Schemas.{schema_with}
use Rattle.cost_directives.specs.ArgumentCosts.{arguments_cost}
use Rattle.cost_directives.specs.Weights.{WeightsData, weights_of, field_in, objects_in, argument_cost_in, input_weight_of}
use Rattle.cost_directives.proofs.FirstsFound.{both}
use Rattle.cost_directives.proofs.LookedUp.{field_looked_up}
use Rattle.meta_schema.specs.MetaForms.{kind_names}
use Rattle.meta_schema.specs.Fields.{what_asked}
use Rattle.meta_schema.specs.MetaFields.{object_types, arguments_of}
use Rattle.meta_schema.specs.MetaTests.{is_object_type, is_enum_of, is_scalar_named, location_names, no_argument, is_meta}
use Rattle.meta_schema.specs.MetaSchemas.{IsOfMetaText}
use Rattle.meta_schema.specs.TestedSchemas.{name_of_queries, FindsItsFields, HasFreeArguments}
use Rattle.meta_schema.proofs.Same.{same_text, of_all}
use Rattle.meta_schema.proofs.BuiltFields.{found_is}
use Rattle.meta_schema.proofs.Costless.{arguments_free, scalars_free}
use Rattle.meta_schema.proofs.FoundFields.{asked_by_name}
use Rattle.meta_schema.proofs.Passed.{Passes, passed, field_passes}

-- ---- its fields are found

-- a schema by what it is built from
record IsBuilt (s : SchemaData) : Type 0 where
  form : ℕ → InputForm
  items : List ItemTree
  types : List NamedKind
  drafts : List TypeDraft
  is : s ≡ schema_with form items types drafts

built_of : (trees : List DefinitionTree) (schema : Schema) → MetaSchemaBuilds trees (Ok schema) → IsBuilt (schema_data schema)
unfolding MetaSchemaBuilds
built_of trees schema builds = record {
  form = (builds.1).0;
  items = items_of trees;
  types = types_of (items_of trees);
  drafts = drafts_of (types_of (items_of trees)) trees;
  is = ((builds.1).2).1;
}

found_in : (form : ℕ → InputForm) (items : List ItemTree) (types : List NamedKind) (drafts : List TypeDraft) → FindsItsFields (schema_with form items types drafts)
found_in form items types drafts T f name found = let x = found_is form items types drafts T f name found in (x.named, x.owned, x.within)

pub finds_fields : (query : List ℕ) (schema : Schema) → IsOfMetaText query schema → FindsItsFields (schema_data schema)
finds_fields query schema x = let b = built_of x.trees schema x.built in subst FindsItsFields (sym b.is) (found_in b.form b.items b.types b.drafts)

-- ---- what it has passed

module _ (query : List ℕ) (s : SchemaData) (w : WeightsData) (tested : is_meta query s w ≡ true) where
  p : Passes query s w
  p = passed query s w tested

  pub is_named : name_of_queries s ≡ query
  is_named = same_text (type_at s 0).name query ((both (bytes_eq (type_at s 0).name query) _ (of_all (is_object_type query s w) object_types 0 refl p.objects)).0)

  pub is_tested : is_meta (name_of_queries s) s w ≡ true
  is_tested = ap (λ (name : List ℕ). is_meta name s w) is_named ∙ tested

  taken_at : (f : ℕ) → f < length s.fields → (field_at s f).arguments ≡ arguments_of (what_asked (field_at s f).name no_argument)
  taken_at f within =
      (asked_by_name s w f (field_at s f).owner (field_at s f).name no_argument (record { named = refl; owned = refl; within = within }) (field_passes query s w p f within)).inputs

  pub are_free : w ≡ weights_of s 1 → HasFreeArguments s w
  are_free weighed f args within =
      let v = weights_of s 1 in
      let asked = what_asked (field_at s f).name no_argument in
      let locations = both (is_enum_of location_names (type_at s 8)) _ ((both (is_enum_of kind_names (type_at s 3)) _ p.leaves).1) in
      let scalars = both (is_scalar_named (codes "String") (type_at s 11)) _ locations.1 in
      let arguments : (field_in v f).arguments ≡ map input_weight_of (arguments_of asked) = ap (λ x. x.arguments) (field_looked_up s 1 f within) ∙ ap (map input_weight_of) (taken_at f within) in
      ap (λ x. argument_cost_in x f args) weighed
      ∙ (ap (λ own. arguments_cost (objects_in v) own args) arguments
      ∙ arguments_free (objects_in v) (scalars_free s 11 (codes "String") scalars.0) (scalars_free s 12 (codes "Boolean") scalars.1) asked args)
