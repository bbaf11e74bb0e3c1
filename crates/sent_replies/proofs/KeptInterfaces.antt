-- A schema that a text says keeps its interfaces.
use Rattle.std.proofs.Common.{◌≡◌, ℕ, List, None, Ok, sym, ap, ◌∙◌, subst}
use Rattle.std.specs.Prelude.{nat_eq}
use Rattle.std.specs.List.{list_any}
use Rattle.input_values.specs.coercion.Forms.{InputForm}
use Rattle.schema_reader.specs.Schemas.{DefinitionTree}
use Rattle.schema_rules.specs.Items.{ItemTree, items_of}
use Rattle.schema_rules.specs.TypeNames.{NamedKind, types_of}
use Rattle.schema_rules.specs.Roots.{has_schema}
use Rattle.schema_rules.specs.WrongKind.{wrong_kind}
use Rattle.schema_rules.proofs.FirstFaults.{neither}
use Rattle.schema_model.specs.declared.schema.Schema.{Schema}
use Rattle.schema_model.specs.Drafts.{TypeDraft, drafts_of}
use Rattle.schema_model.specs.Implementing.{draft_at, not_implemented}
use Rattle.schema_model.specs.SchemaViews.{schema_data}
use Rattle.schema_model.specs.Faults.{fault_of_items, fault_of_names, fault_of_types, fault_of_drafts, fault_from_types, fault_from_names, SchemaBuilds}
use Rattle.cost_directives.proofs.FittingSizes.{unmapped}
use Rattle.cost_directives.proofs.DraftedFields.{made, own_interfaces}
use Rattle.cost_directives.proofs.PlainDrafts.{plain_drafts}
use Rattle.sent_replies.specs.Interfaces.{KeepsInterfaces}
use Rattle.sent_replies.proofs.BuiltSchemas.{OnlyUnions, drafts_right, unions_only, no_union_field, no_union_interface, above_too, has_field_of}
use Rattle.sent_replies.proofs.NamedKinds.{kinds_agree, drafts_interfaces, are_of_interfaces}

made_keeps : (form : ℕ → InputForm) (text : List DefinitionTree) → wrong_kind (types_of (items_of text)) (items_of text) ≡ None → not_implemented (drafts_of (types_of (items_of text)) text) ≡ None
    → KeepsInterfaces (made form (items_of text) (types_of (items_of text)) (drafts_of (types_of (items_of text)) text))
made_keeps form text right kept =
    let items : List ItemTree = items_of text in
    let types : List NamedKind = types_of items in
    let ds : List TypeDraft = drafts_of types text in
    let plain = plain_drafts types text in
    let unions : (of : ℕ) → OnlyUnions (draft_at ds of) = drafts_right types text in
    record {
      are_interfaces = λ T I implements.
          are_of_interfaces form types ds (kinds_agree text) (has_schema items) (draft_at ds T).interfaces I (drafts_interfaces types (has_schema items) text right T)
          (sym (ap (list_any (nat_eq I)) (own_interfaces form items types ds T)) ∙ implements);
      are_unions = unions_only form items types ds kept plain unions;
      unions_have_no_field = no_union_field form items types ds kept plain unions;
      unions_implement_none = no_union_interface form items types ds kept plain unions;
      interfaces_above = above_too form items types ds kept plain unions;
      fields = has_field_of form items types ds kept plain unions;
    }

pub built_keeps : (text : List DefinitionTree) (schema : Schema) → SchemaBuilds text (Ok schema) → KeepsInterfaces (schema_data schema)
unfolding SchemaBuilds
built_keeps text schema built =
    let items : List ItemTree = items_of text in
    let types : List NamedKind = types_of items in
    let ds : List TypeDraft = drafts_of types text in
    let of_names = neither (fault_of_items items) (fault_from_names types ds items) built.0 in
    let of_types = neither (fault_of_names types items) (fault_from_types ds items) of_names.1 in
    let by_name = neither _ _ of_types.0 in
    let by_type = neither (fault_of_types items) (fault_of_drafts ds items) of_types.1 in
    let right = unmapped _ (wrong_kind types items) ((neither _ _ by_name.1).1) in
    let kept = unmapped _ (not_implemented ds) ((neither _ _ by_type.1).0) in
    subst KeepsInterfaces (sym ((built.1).2).1) (made_keeps (built.1).0 text right kept)
