-- What is known of a schema, put together.
use Rattle.std.proofs.Common.{◌≡◌, ℕ, List, [], ◌++◌, Option, sym, ap, ap₂, ◌∙◌, subst}
use Rattle.gql_base.specs.declared.parts.trees.OperationKind.TheVariants.{Query, Mutation, Subscription}
use Rattle.schema_reader.specs.Schemas.{DefinitionTree}
use Rattle.schema_reader.specs.SchemaAnswers.{HasSchema}
use Rattle.schema_facts.specs.declared.making.Told.{Told}
use Rattle.schema_facts.specs.MetaText.{meta_text, built_in_directives}
use Rattle.schema_facts.specs.Facts.{KnownTree, FactsData, AreFacts, facts_with, root_in, schema_description, types_in, scalars_if, known_types, reserved_in, not_defined, directives_in, or_empty}
use Rattle.schema_facts.specs.Making.{IsTold}

module _ (text meta built : List DefinitionTree) (told : Told) (t0 t1 t2 t3 : List KnownTree) (d0 d1 d2 : List DefinitionTree) where
  types_made : IsTold text told → t0 ≡ [] → t1 ≡ t0 ++ types_in text → t2 ≡ scalars_if told.int told.id t1 → t3 ≡ t2 ++ reserved_in meta → t3 ≡ known_types text meta
  types_made is none own scalars all =
      all ∙ ap (λ t. t ++ reserved_in meta)
      (scalars ∙ ap (scalars_if told.int told.id) (own ∙ ap (λ l. l ++ types_in text) none) ∙ ap₂ (λ int id. scalars_if int id (types_in text)) is.int is.id)

  directives_made : d0 ≡ [] → d1 ≡ d0 ++ not_defined text built → d2 ≡ d1 ++ directives_in text → d2 ≡ not_defined text built ++ directives_in text
  directives_made none further own = own ∙ ap (λ l. l ++ directives_in text) (further ∙ ap (λ l. l ++ not_defined text built) none)

  pub facts_made : (description : Option (List ℕ)) (name meta_string built_string : List ℕ) (f : FactsData) → IsTold text told → description ≡ schema_description text
      → name ≡ or_empty told.query → meta_string ≡ meta_text name → HasSchema meta_string meta → built_string ≡ built_in_directives → HasSchema built_string built
      → t0 ≡ [] → t1 ≡ t0 ++ types_in text → t2 ≡ scalars_if told.int told.id t1 → t3 ≡ t2 ++ reserved_in meta
      → d0 ≡ [] → d1 ≡ d0 ++ not_defined text built → d2 ≡ d1 ++ directives_in text
      → f ≡ facts_with description t3 told.query told.mutation told.subscription d2 → AreFacts text f
  facts_made description name meta_string built_string f is described named meta_is meta_read built_is built_read no_types own_types scalars all no_directives further own_directives same = record {
    meta = meta;
    built_ins = built;
    meta_read = subst (λ s. HasSchema s meta) (meta_is ∙ ap meta_text (named ∙ sym (ap (λ (g : FactsData). g.query_name) same))) meta_read;
    built_ins_read = subst (λ s. HasSchema s built) built_is built_read;
    same = same
        ∙ ap (λ x. facts_with x t3 told.query told.mutation told.subscription d2) described
        ∙ ap (λ x. facts_with (schema_description text) x told.query told.mutation told.subscription d2) (types_made is no_types own_types scalars all)
        ∙ ap (λ x. facts_with (schema_description text) (known_types text meta) x told.mutation told.subscription d2) is.query
        ∙ ap (λ x. facts_with (schema_description text) (known_types text meta) (root_in text Query) x told.subscription d2) is.mutation
        ∙ ap (λ x. facts_with (schema_description text) (known_types text meta) (root_in text Query) (root_in text Mutation) x d2) is.subscription
        ∙ ap (λ x. facts_with (schema_description text) (known_types text meta) (root_in text Query) (root_in text Mutation) (root_in text Subscription) x) (directives_made no_directives further own_directives);
  }
