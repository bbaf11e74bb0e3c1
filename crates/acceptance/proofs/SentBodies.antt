-- What was checked for a request is what is prepared of it.
use Rattle.std.proofs.Common.{◌≡◌, ◌∙◌, ℕ, List, map, false, Some, IsUtf8, sym, ap, subst}
use Rattle.std.proofs.lemmas.Option.{same_Some}
use Rattle.serde_json.specs.Data.{Data}
use Rattle.serde_json.specs.Read.{read}
use Rattle.serde_json.specs.Written.{has_float, compact_text}
use Rattle.gql_base.specs.printing.Printing.{printed}
use Rattle.document_reader.specs.declared.trees.Definition.{Definition}
use Rattle.document_reader.specs.declared.trees.Operation.{Operation}
use Rattle.document_reader.specs.Trees.{definition_tree}
use Rattle.document_reader.specs.PrintedDocuments.{document_symbols}
use Rattle.document_reader.specs.Documents.{DefinitionTree}
use Rattle.document_rules.specs.declared.checking.Checked.{Checked}
use Rattle.document_rules.specs.Parts.{fragment_data, fragments_of}
use Rattle.document_rules.specs.Met.{fragments_met}
use Rattle.document_rules.specs.Checking.{reached_by}
use Rattle.document_rules.specs.Sites.{type_of_kind}
use Rattle.typename_rewrite.specs.AddedNames.{names_of_document, IsAlias}
use Rattle.typename_rewrite.specs.Rewriting.{rewritten_document}
use Rattle.response_model.proofs.WrittenTexts.{value_compact}
use Rattle.schema_model.specs.SchemaData.{has_floats}
use Rattle.typename_rewrite.specs.ForwardedBodies.{body_data, IsWrittenBody}
use Rattle.typename_rewrite.proofs.ReadBodies.{body_so, body_deep}
use Rattle.typename_rewrite.specs.Views.{fragment_seen, rewritten_of}
use Rattle.merged_selections.proofs.BuiltPlans.{seen_fragments}
use Rattle.acceptance.specs.Requests.{RequestData, Prepared, IsCheckFor, setting}
use Rattle.acceptance.specs.Keys.{HasEachKeyOnce}
use Rattle.acceptance.specs.Forwarding.{IsFreeIn, sent_document, sent_text, sent_body, IsGivenAsRead, IsSentText}
use Rattle.acceptance.proofs.OneVerdict.{same_operation}
use Rattle.acceptance.proofs.SentFloats.{sent_floatless}

module _ (r : RequestData) (c : Checked) (check : IsCheckFor r c) (p : Prepared r) where
  pub prepared_operation : c.operation.now ≡ p.operation
  prepared_operation = same_operation r c.operation.now p.operation check.keeps.0 p.keeps.0

  prepared_root : c.root.number ≡ p.root
  prepared_root = same_Some c.root.number p.root (sym check.of.root ∙ (ap (λ (o : Operation). type_of_kind r.schema o.kind) prepared_operation ∙ p.on_root))

  prepared_fragments : map fragment_seen c.fragments.items ≡ (setting r p).fragments
  prepared_fragments =
      seen_fragments c.fragments.items
      ∙ (ap (map fragment_data) check.of.fragments
      ∙ ap (λ (o : Operation). map fragment_data (fragments_met (fragments_of r.document) (reached_by r.document o))) prepared_operation)

  same_document : (alias : List ℕ) → rewritten_of r.schema alias c ≡ sent_document r p alias
  same_document alias =
      ap (λ (n : ℕ). rewritten_document r.schema alias n c.operation.now (map fragment_seen c.fragments.items)) prepared_root
      ∙ (ap (λ (o : Operation). rewritten_document r.schema alias p.root o (map fragment_seen c.fragments.items)) prepared_operation
      ∙ ap (rewritten_document r.schema alias p.root p.operation) prepared_fragments)

  pub same_body : (alias text : List ℕ) → text ≡ printed (document_symbols (rewritten_of r.schema alias c)) → body_data c.operation.now text r.given ≡ sent_body r p alias
  same_body alias text is =
      ap (λ (o : Operation). body_data o text r.given) prepared_operation
      ∙ ap (λ (t : List ℕ). body_data p.operation t r.given) (is ∙ ap (λ (ds : List DefinitionTree). printed (document_symbols ds)) (same_document alias))

  pub same_text : (alias body : List ℕ) (json : Data) → json ≡ sent_body r p alias → IsUtf8 body → IsWrittenBody json body → (has_float json ≡ false → body ≡ compact_text json) → IsSentText r p alias body
  same_text alias body json same utf8 written plain = record {
    compact = λ given.
        let as_read = body_so p.operation (sent_text r p alias) r.given given.as_read in
        let shallow = body_deep p.operation (sent_text r p alias) r.given given.within in
        value_compact (sent_body r p alias) body utf8 shallow (subst (λ (d : Data). IsWrittenBody d body) same written as_read shallow);
    plain = subst (λ (d : Data). has_float d ≡ false → body ≡ compact_text d) same plain;
  }

pub free_alias : (r : RequestData) (c : Checked) (alias : List ℕ) → IsCheckFor r c → IsAlias (names_of_document (map definition_tree c.document.now.definitions.items)) alias → IsFreeIn r alias
free_alias r c alias check is = subst (λ (ds : List Definition). IsAlias (names_of_document (map definition_tree ds)) alias) check.of.document is

pub one_text : (r : RequestData) (p : Prepared r) (alias text other : List ℕ) → has_floats r.schema ≡ false → HasEachKeyOnce r.given → IsSentText r p alias text → IsSentText r p alias other → text ≡ other
one_text r p alias text other none once is same = let floatless = sent_floatless r p alias none once in is.plain floatless ∙ sym (same.plain floatless)

pub sent_read : (r : RequestData) (p : Prepared r) (alias text : List ℕ) → IsGivenAsRead r.given → IsSentText r p alias text → read text ≡ Some (sent_body r p alias)
sent_read r p alias text given is = (is.compact given).is_read
