-- A type that is drafted has no members, or it has no fields.
use Rattle.std.proofs.Common.{◌≡◌, ◌⊎◌, ℕ, zero, suc, List, [], ◌∷◌, ◌++◌, map, drop, length, Option, inl, inr, refl, sym, subst, Bool}
use Rattle.std.proofs.lemmas.List.{append_assoc}
use Rattle.schema_reader.specs.Schemas.{BodyTree, schema_body, scalar_body, object_body, interface_body, union_body, enum_body, input_body, directive_body, DefinitionTree}
use Rattle.schema_rules.specs.TypeNames.{NamedKind}
use Rattle.schema_rules.specs.DirectiveUses.{given_weight, is_lax}
use Rattle.schema_model.specs.Drafts.{TypeDraft, body_draft, definition_draft, scalar_draft, defined_drafts, drafts_of}
use Rattle.schema_model.specs.Implementing.{draft_at}

abbrev pub IsPlain : TypeDraft → Type 0
IsPlain d = (d.members ≡ []) ⊎ (d.fields ≡ [])

plain_scalars : (types : List NamedKind) (of : ℕ) → IsPlain (draft_at (map scalar_draft types) of)
plain_scalars [] of = inl refl
plain_scalars (t ∷ types) zero = inl refl
plain_scalars (t ∷ types) (suc of) = plain_scalars types of

module _ (types : List NamedKind) where
  plain_body : (name : List ℕ) (cost : Option (List ℕ)) (lax : Bool) (body : BodyTree) (rest : List TypeDraft) → ((of : ℕ) → IsPlain (draft_at rest of)) → (of : ℕ) → IsPlain (draft_at (body_draft types name cost lax body ++ rest) of)
  plain_body name cost lax (schema_body roots) rest plain of = plain of
  plain_body name cost lax (directive_body arguments repeatable locations) rest plain of = plain of
  plain_body name cost lax scalar_body rest plain zero = inl refl
  plain_body name cost lax scalar_body rest plain (suc of) = plain of
  plain_body name cost lax (object_body interfaces fields) rest plain zero = inl refl
  plain_body name cost lax (object_body interfaces fields) rest plain (suc of) = plain of
  plain_body name cost lax (interface_body interfaces fields) rest plain zero = inl refl
  plain_body name cost lax (interface_body interfaces fields) rest plain (suc of) = plain of
  plain_body name cost lax (union_body members) rest plain zero = inr refl
  plain_body name cost lax (union_body members) rest plain (suc of) = plain of
  plain_body name cost lax (enum_body values) rest plain zero = inl refl
  plain_body name cost lax (enum_body values) rest plain (suc of) = plain of
  plain_body name cost lax (input_body fields) rest plain zero = inl refl
  plain_body name cost lax (input_body fields) rest plain (suc of) = plain of

  plain_defined : (text : List DefinitionTree) (rest : List TypeDraft) → ((of : ℕ) → IsPlain (draft_at rest of)) → (of : ℕ) → IsPlain (draft_at (defined_drafts types text ++ rest) of)
  plain_defined [] rest plain of = plain of
  plain_defined (d ∷ text) rest plain of =
      subst (λ drafts. IsPlain (draft_at drafts of)) (sym (append_assoc (definition_draft types d) (defined_drafts types text) rest))
      (plain_body d.1.0 (given_weight d.1.1) (is_lax d.1.1) d.1.2 (defined_drafts types text ++ rest) (plain_defined text rest plain) of)

  pub plain_drafts : (text : List DefinitionTree) (of : ℕ) → IsPlain (draft_at (drafts_of types text) of)
  plain_drafts text of =
      let others = drop (length (defined_drafts types text)) types in
      plain_defined text (map scalar_draft others) (plain_scalars others) of
