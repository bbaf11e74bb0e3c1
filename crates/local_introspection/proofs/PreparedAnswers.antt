-- What is planned well has the one answer, or one that is too large.
use Rattle.std.proofs.Common.{◌⊎◌, ◌≡◌, ◌∙◌, ◌<◌, ℕ, List, Some, Ok, refl, sym, ap, subst}
use Rattle.serde_json.specs.Data.{Data}
use Rattle.gql_base.specs.declared.parts.trees.OperationKind.{OperationKind}
use Rattle.gql_base.specs.declared.parts.trees.OperationKind.TheVariants.{Query}
use Rattle.document_reader.specs.declared.trees.Definition.{Definition}
use Rattle.response_model.specs.Response.{Tree}
use Rattle.cost_num.specs.declared.Cost.{Cost}
use Rattle.response_model.specs.Cost.{types, fields}
use Rattle.schema_model.specs.SchemaData.{SchemaData}
use Rattle.schema_model.specs.SchemaViews.{schema_data}
use Rattle.document_rules.specs.Sites.{type_of_kind}
use Rattle.plan_model.specs.SelectedFields.{Setting}
use Rattle.schema_facts.specs.Things.{one, the_root}
use Rattle.meta_schema.specs.declared.schema.MetaSchema.{MetaSchema}
use Rattle.meta_schema.specs.TestedSchemas.{name_of_queries}
use Rattle.meta_schema.specs.MetaSchemas.{IsOver}
use Rattle.meta_schema.specs.MetaFields.{HasMetaForm}
use Rattle.local_introspection.specs.declared.facts.Facts.{Facts}
use Rattle.local_introspection.specs.declared.fault.LocalFault.TheVariants.{TooLarge}
use Rattle.local_introspection.specs.Walking.{answer_text}
use Rattle.local_introspection.specs.Answers.{values_in}
use Rattle.local_introspection.specs.Lengths.{IsShort, IsLong}
use Rattle.local_introspection.specs.Counting.{IsCount, answer_tree}
use Rattle.local_introspection.specs.LocalRequests.{LocalRequest, local_request, Prepared, setting, IsPlannedWell, place_in, nodes_asked, IsTheAnswer}
use Rattle.local_introspection.specs.LocalAnswers.{IsAnsweredWith, IsRefusedFor}
use Rattle.local_introspection.proofs.OneAnswer.{is_given, entries_are_given}
use Rattle.local_introspection.proofs.OverMeta.{AskLaws, answer_fits, answer_costs}
use Rattle.local_introspection.proofs.Stages.{query_asked}

some_same : (a b : ℕ) → Some a ≡ Some b → b ≡ a
some_same a b is = cc

query_root : (s : SchemaData) (kind : OperationKind) (root : ℕ) → kind ≡ Query → s.query ≡ 0 → type_of_kind s kind ≡ Some root → root ≡ 0
query_root s kind root query zeroth is = some_same s.query root (ap (type_of_kind s) (sym query) ∙ is) ∙ zeroth

-- each schema of schemas that was made has its form
abbrev pub HaveTheirForms : Type 0
HaveTheirForms = (m : MetaSchema) (e : Setting) → IsOver m e → HasMetaForm (name_of_queries (schema_data m.schema)) e

module _ (laws : AskLaws) (forms : HaveTheirForms) (facts : Facts) (document : List Definition) (place : ℕ) (given : Data) where
  abbrev r : LocalRequest
  r = local_request facts document place given

  module _ (p : Prepared r) (well : IsPlannedWell r p) where
    abbrev e : Setting
    e = setting r p

    meta : HasMetaForm r.facts.query_name e
    meta = subst (λ name. HasMetaForm name e) facts.named (forms facts.meta e (record { schema = refl; weights = refl }))

    rooted : p.root ≡ 0
    rooted = query_root r.schema p.operation.kind p.root (query_asked r p.operation p.keeps.0) meta.root p.on_root

    abbrev tree : Tree
    tree = answer_tree r.facts (nodes_asked r p)

    is_the_answer : IsTheAnswer r p tree
    is_the_answer = record {
      fits = answer_fits laws r.facts e meta (place_in r.facts) p.operation p.root rooted well;
      given = is_given r.facts (nodes_asked r p) (entries_are_given r.facts (nodes_asked r p)) (one the_root);
    }

    pub is_written : (c : Cost) → IsCount r.facts (nodes_asked r p) (Ok c) → IsShort r.most (answer_text r.facts (nodes_asked r p)) → IsAnsweredWith r (record { cost = c; text = answer_text r.facts (nodes_asked r p) })
    is_written c is short = (
      p,
      well,
      tree,
      is_the_answer,
      record {
        few = is.0;
        text = refl;
        short = short;
        of_types = is.1 ∙ sym (answer_costs laws r.facts e meta (place_in r.facts) p.operation p.root rooted types well is.0);
        of_fields = is.2 ∙ sym (answer_costs laws r.facts e meta (place_in r.facts) p.operation p.root rooted fields well is.0);
      },
    )

    pub is_too_large : (1000000 < values_in tree) ⊎ IsLong r.most (answer_text r.facts (nodes_asked r p)) → IsRefusedFor r TooLarge
    is_too_large large = (p, well, tree, is_the_answer, large)
