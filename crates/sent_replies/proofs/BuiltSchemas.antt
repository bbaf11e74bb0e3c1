-- The types of a schema that a text says keep their interfaces.
use Rattle.std.proofs.Common.{◌≡◌, ◌⊎◌, inl, inr, ⊎_elim, ℕ, zero, suc, ◌+◌, List, [], ◌∷◌, ◌++◌, map, drop, get_or, length, Bool, true, false, not, true≢false, ◌||◌, eqb-true, Option, Some, None, refl, sym, ap, ◌∙◌, subst}
use Rattle.std.specs.Prelude.{nat_eq, if◌then◌else◌}
use Rattle.std.specs.List.{list_any, list_all}
use Rattle.std.proofs.lemmas.Bool.{cases_Bool, not-false, or_parts}
use Rattle.std.proofs.lemmas.List.{append_assoc}
use Rattle.std.proofs.lemmas.Option.{none-some, same_Some}
use Rattle.input_values.specs.coercion.Forms.{InputForm}
use Rattle.input_values.specs.coercion.Places.{innermost}
use Rattle.input_values.specs.inputs.Shapes.{ShapeTree, named_shape, list_shape}
use Rattle.schema_reader.specs.Schemas.{BodyTree, schema_body, scalar_body, object_body, interface_body, union_body, enum_body, input_body, directive_body, DefinitionTree}
use Rattle.schema_rules.specs.declared.kind.Kind.TheVariants.{Scalar, Union}
use Rattle.schema_rules.specs.Places.{PlaceTree, at_type}
use Rattle.schema_rules.specs.Items.{ItemTree}
use Rattle.schema_rules.specs.TypeNames.{NamedKind}
use Rattle.schema_rules.specs.DirectiveUses.{given_weight, is_lax}
use Rattle.schema_model.specs.Drafts.{FieldDraft, TypeDraft, bare, body_draft, definition_draft, scalar_draft, defined_drafts, drafts_of}
use Rattle.schema_model.specs.Implementing.{draft_at, is_kind_of, is_no_looser, is_narrower, names_all, lacks_interfaces, lacking_field, in_type, lack_at, not_implemented}
use Rattle.schema_model.specs.Schemas.{field_name, types_from, no_type}
use Rattle.schema_model.specs.SchemaData.{TypeData, SchemaData, type_at, field_named, number_at, same_text}
use Rattle.gql_base.specs.names.Names.{place_of_name}
use Rattle.cost_directives.proofs.FirstsFound.{none_at, both}
use Rattle.cost_directives.proofs.DraftedFields.{FieldOf, made, own_interfaces, field_or_none}
use Rattle.cost_directives.proofs.PlainDrafts.{IsPlain}
use Rattle.cost_directives.proofs.Implemented.{kept_field}
use Rattle.document_rules.specs.Sites.{type_of_field}
use Rattle.sent_replies.specs.Interfaces.{Implements, IsMember, IsNarrower, HasField}

-- ---- only unions have members, and they have neither fields nor interfaces

abbrev pub OnlyUnions : TypeDraft → Type 0
OnlyUnions d = ((T : ℕ) → list_any (nat_eq T) d.members ≡ true → d.kind ≡ Union) × (d.kind ≡ Union → (d.fields ≡ []) × (d.interfaces ≡ []))

no_member : {X : Type 0} → false ≡ true → X
no_member is = absurd (true≢false (sym is))

scalars_right : (types : List NamedKind) (of : ℕ) → OnlyUnions (draft_at (map scalar_draft types) of)
scalars_right [] of = (λ T is. no_member is, λ is. absurd (cc))
scalars_right (t ∷ types) zero = (λ T is. no_member is, λ is. absurd (cc))
scalars_right (t ∷ types) (suc of) = scalars_right types of

module _ (types : List NamedKind) where
  body_right : (name : List ℕ) (cost : Option (List ℕ)) (lax : Bool) (body : BodyTree) (rest : List TypeDraft) → ((of : ℕ) → OnlyUnions (draft_at rest of)) → (of : ℕ) → OnlyUnions (draft_at (body_draft types name cost lax body ++ rest) of)
  body_right name cost lax (schema_body roots) rest right of = right of
  body_right name cost lax (directive_body arguments repeatable locations) rest right of = right of
  body_right name cost lax scalar_body rest right zero = (λ T is. no_member is, λ is. absurd (cc))
  body_right name cost lax scalar_body rest right (suc of) = right of
  body_right name cost lax (object_body interfaces fields) rest right zero = (λ T is. no_member is, λ is. absurd (cc))
  body_right name cost lax (object_body interfaces fields) rest right (suc of) = right of
  body_right name cost lax (interface_body interfaces fields) rest right zero = (λ T is. no_member is, λ is. absurd (cc))
  body_right name cost lax (interface_body interfaces fields) rest right (suc of) = right of
  body_right name cost lax (union_body members) rest right zero = (λ T is. refl, λ is. (refl, refl))
  body_right name cost lax (union_body members) rest right (suc of) = right of
  body_right name cost lax (enum_body values) rest right zero = (λ T is. no_member is, λ is. absurd (cc))
  body_right name cost lax (enum_body values) rest right (suc of) = right of
  body_right name cost lax (input_body fields) rest right zero = (λ T is. no_member is, λ is. absurd (cc))
  body_right name cost lax (input_body fields) rest right (suc of) = right of

  text_right : (text : List DefinitionTree) (rest : List TypeDraft) → ((of : ℕ) → OnlyUnions (draft_at rest of)) → (of : ℕ) → OnlyUnions (draft_at (defined_drafts types text ++ rest) of)
  text_right [] rest right of = right of
  text_right (d ∷ text) rest right of =
      subst (λ (drafts : List TypeDraft). OnlyUnions (draft_at drafts of)) (sym (append_assoc (definition_draft types d) (defined_drafts types text) rest))
      (body_right d.1.0 (given_weight d.1.1) (is_lax d.1.1) d.1.2 (defined_drafts types text ++ rest) (text_right text rest right) of)

  pub drafts_right : (text : List DefinitionTree) (of : ℕ) → OnlyUnions (draft_at (drafts_of types text) of)
  drafts_right text of =
      let others : List NamedKind = drop (length (defined_drafts types text)) types in
      text_right text (map scalar_draft others) (scalars_right others) of

abbrev pub UnionsAlone : TypeData → Type 0
UnionsAlone t = ((T : ℕ) → list_any (nat_eq T) t.members ≡ true → t.kind ≡ Union) × (t.kind ≡ Union → (t.names ≡ []) × (t.interfaces ≡ []))

module _ (form : ℕ → InputForm) where
  types_right : (first : ℕ) (ds : List TypeDraft) → ((of : ℕ) → OnlyUnions (draft_at ds of)) → (U : ℕ) → UnionsAlone (get_or (types_from form first ds) U no_type)
  types_right first [] right U = (λ T is. refl, λ is. (refl, refl))
  types_right first (d ∷ ds) right zero = (let own : OnlyUnions d = right 0 in (own.0, λ is. (ap (map field_name) (own.1 is).0, (own.1 is).1)))
  types_right first (d ∷ ds) right (suc U) = types_right (first + length d.fields) ds (λ of. right (suc of)) U

  members_of : (first : ℕ) (ds : List TypeDraft) (o : ℕ) → (get_or (types_from form first ds) o no_type).members ≡ (draft_at ds o).members
  members_of first [] o = refl
  members_of first (d ∷ ds) zero = refl
  members_of first (d ∷ ds) (suc o) = members_of (first + length d.fields) ds o

-- ---- interfaces above interfaces

unlacked : (lacks : Bool) (place : PlaceTree) (of : List ℕ) (field : Option (List ℕ)) → (if lacks then Some place else in_type of field) ≡ None → lacks ≡ false
unlacked true place of field none = absurd (cc)
unlacked false place of field none = refl

none_passes : (test : ℕ → Bool) (ns : List ℕ) (n : ℕ) → list_any test ns ≡ false → list_any (nat_eq n) ns ≡ true → test n ≡ false
none_passes test [] n none among = absurd (true≢false (sym among))
none_passes test (m ∷ ns) n none among =
    let apart = or_parts (test m) (list_any test ns) none in
    ⊎_elim
    (λ (here : nat_eq n m ≡ true). ap test (eqb-true n m here) ∙ apart.0)
    (λ (later : nat_eq n m ≡ false). none_passes test ns n apart.1 (sym (ap (λ (b : Bool). b || list_any (nat_eq n) ns) later) ∙ among))
    (cases_Bool (nat_eq n m))

all_pass : (test : ℕ → Bool) (ns : List ℕ) (n : ℕ) → list_all test ns ≡ true → list_any (nat_eq n) ns ≡ true → test n ≡ true
all_pass test [] n all among = absurd (true≢false (sym among))
all_pass test (m ∷ ns) n all among =
    let parts = both (test m) (list_all test ns) all in
    ⊎_elim
    (λ (here : nat_eq n m ≡ true). ap test (eqb-true n m here) ∙ parts.0)
    (λ (later : nat_eq n m ≡ false). all_pass test ns n parts.1 (sym (ap (λ (b : Bool). b || list_any (nat_eq n) ns) later) ∙ among))
    (cases_Bool (nat_eq n m))

one_of : (a b : Bool) → (a || b) ≡ true → (a ≡ true) ⊎ (b ≡ true)
one_of true b is = inl refl
one_of false b is = inr is

-- a narrower type returns a value of the kind of the wanted one
kinds_within : (ds : List TypeDraft) (own wanted : ShapeTree) → is_narrower ds own wanted ≡ true → is_kind_of ds (innermost own) (innermost wanted) ≡ true
unfolding is_narrower
kinds_within ds (named_shape own n) (named_shape wanted m) narrower = (both (is_no_looser n m) (is_kind_of ds own wanted) narrower).1
kinds_within ds (list_shape own n) (list_shape wanted m) narrower = kinds_within ds own wanted (both (is_no_looser n m) (is_narrower ds own wanted) narrower).1
kinds_within ds (named_shape own n) (list_shape wanted m) narrower = absurd (true≢false (sym narrower))
kinds_within ds (list_shape own n) (named_shape wanted m) narrower = absurd (true≢false (sym narrower))

module _ (form : ℕ → InputForm) (items : List ItemTree) (types : List NamedKind) (ds : List TypeDraft) (kept : not_implemented ds ≡ None) (plain : (of : ℕ) → IsPlain (draft_at ds of)) (right : (of : ℕ) → OnlyUnions (draft_at ds of)) where
  abbrev s : SchemaData
  s = made form items types ds

  unions_alone : (U : ℕ) → UnionsAlone (type_at s U)
  unions_alone U = types_right form 0 ds right U

  pub unions_only : (T U : ℕ) → IsMember s T U → (type_at s U).kind ≡ Union
  unions_only T U member = (unions_alone U).0 T member

  pub no_union_field : (U : ℕ) (name : List ℕ) → (type_at s U).kind ≡ Union → field_named s U name ≡ None
  no_union_field U name is = ap (λ (names : List (List ℕ)). number_at (type_at s U).fields (place_of_name same_text names name)) ((unions_alone U).1 is).0

  pub no_union_interface : (U I : ℕ) → (type_at s U).kind ≡ Union → Implements s U I → ⊥
  no_union_interface U I is implements = true≢false (sym implements ∙ ap (list_any (nat_eq I)) ((unions_alone U).1 is).1)

  drafted : (T I : ℕ) → Implements s T I → list_any (nat_eq I) (draft_at ds T).interfaces ≡ true
  drafted T I implements = sym (ap (list_any (nat_eq I)) (own_interfaces form items types ds T)) ∙ implements

  pub above_too : (T I J : ℕ) → Implements s T I → Implements s I J → Implements s T J
  above_too T I J first second =
      let t : TypeDraft = draft_at ds T in
      let lacks_none : lack_at ds t ≡ None = none_at (lack_at ds) ds (bare [] Scalar None false) T refl kept in
      let lacks : lacks_interfaces ds t.interfaces t.interfaces ≡ false = unlacked (lacks_interfaces ds t.interfaces t.interfaces) (at_type t.name) t.name (lacking_field ds t.fields t.interfaces) lacks_none in
      let all : names_all t.interfaces (draft_at ds I).interfaces ≡ true =
      not-false (names_all t.interfaces (draft_at ds I).interfaces) (none_passes (λ i. not (names_all t.interfaces (draft_at ds i).interfaces)) t.interfaces I lacks (drafted T I first)) in
      ap (list_any (nat_eq J)) (own_interfaces form items types ds T) ∙ all_pass (λ n. list_any (nat_eq n) t.interfaces) (draft_at ds I).interfaces J all (drafted I J second)

  narrower_types : (own wanted : ℕ) → is_kind_of ds own wanted ≡ true → IsNarrower s own wanted
  narrower_types own wanted is = ⊎_elim
      (λ (same : nat_eq own wanted ≡ true). inl (eqb-true own wanted same))
      (λ (other : (list_any (nat_eq wanted) (draft_at ds own).interfaces || list_any (nat_eq own) (draft_at ds wanted).members) ≡ true). ⊎_elim
      (λ (implements : list_any (nat_eq wanted) (draft_at ds own).interfaces ≡ true). inr (inl (ap (list_any (nat_eq wanted)) (own_interfaces form items types ds own) ∙ implements)))
      (λ (member : list_any (nat_eq own) (draft_at ds wanted).members ≡ true). inr (inr (ap (list_any (nat_eq own)) (members_of form 0 ds wanted) ∙ member)))
      (one_of (list_any (nat_eq wanted) (draft_at ds own).interfaces) (list_any (nat_eq own) (draft_at ds wanted).members) other))
      (one_of (nat_eq own wanted) (list_any (nat_eq wanted) (draft_at ds own).interfaces || list_any (nat_eq own) (draft_at ds wanted).members) is)

  pub has_field_of : (T I : ℕ) (name : List ℕ) (wanted : ℕ) → Implements s T I → field_named s I name ≡ Some wanted → HasField s T name wanted
  has_field_of T I name wanted implements found = ⊎_elim
      (λ none. absurd (none-some wanted (sym none.0 ∙ found)))
      (λ (v : FieldOf form s ds I name). of_interface v)
      (field_or_none form items types ds I name)
    where
      of_interface : FieldOf form s ds I name → HasField s T name wanted
      of_interface v =
          let k = kept_field form items types ds kept plain T I name v.draft (drafted T I implements) v.drafted in
          let narrower : is_narrower ds k.0.shape v.draft.shape ≡ true = (both (is_narrower ds k.0.shape v.draft.shape) _ k.2).0 in
          let number : v.number ≡ wanted = same_Some v.number wanted (sym v.named ∙ found) in
          ⊎_elim
          (λ none. absurd (none-some k.0 (sym none.1 ∙ k.1)))
          (λ (f : FieldOf form s ds T name). (
          let same : f.draft ≡ k.0 = same_Some f.draft k.0 (sym f.drafted ∙ k.1) in
          let own : type_of_field s f.number ≡ innermost k.0.shape = ap (λ field. innermost field.shape) f.field ∙ ap (λ (d : FieldDraft). innermost d.shape) same in
          let theirs : type_of_field s wanted ≡ innermost v.draft.shape = sym (ap (type_of_field s) number) ∙ ap (λ field. innermost field.shape) v.field in (
            f.number,
            f.named,
            subst (λ (n : ℕ). IsNarrower s n (type_of_field s wanted)) (sym own)
                (subst (λ (n : ℕ). IsNarrower s (innermost k.0.shape) n) (sym theirs) (narrower_types (innermost k.0.shape) (innermost v.draft.shape) (kinds_within ds k.0.shape v.draft.shape narrower))),
          )
          ))
          (field_or_none form items types ds T name)
