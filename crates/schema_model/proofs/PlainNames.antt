-- A schema that a text says has no type with a reserved name.
use Rattle.std.proofs.Common.{◌≡◌, ◌⊎◌, inl, inr, ℕ, zero, suc, ◌+◌, Bool, true, false, true≢false, ◌||◌, List, [], ◌∷◌, ◌++◌, length, map, drop, Option, None, Some, option_map, Ok, refl, sym, ap, ◌∙◌}
use Rattle.std.specs.Prelude.{codes}
use Rattle.std.specs.List.{list_any, position_from, flat_map}
use Rattle.std.specs.Str.{bytes_eq}
use Rattle.std.proofs.lemmas.Bool.{cases_Bool}
use Rattle.std.proofs.lemmas.Slice.Eq.{bytes_eq-Decides}
use Rattle.gql_base.specs.names.Names.{has_name}
use Rattle.gql_base.specs.parts.Arguments.{DirectiveTree}
use Rattle.input_values.specs.coercion.Forms.{InputForm}
use Rattle.schema_reader.specs.Schemas.{NameText, BodyTree, schema_body, scalar_body, object_body, interface_body, union_body, enum_body, input_body, directive_body, DefinitionTree}
use Rattle.schema_rules.specs.declared.kind.Kind.TheVariants.{Scalar}
use Rattle.schema_rules.specs.Places.{PlaceTree}
use Rattle.schema_rules.specs.First.{or_else, first_of, fault_where}
use Rattle.schema_rules.specs.Items.{ItemTree, schema_item, root_item, type_item, interface_item, member_item, field_item, argument_item, field_type_item, enum_value_item, input_field_item, directive_item, directive_argument_item, body_items, definition_items, items_of, place_of}
use Rattle.schema_rules.specs.TypeNames.{NamedKind, name_of, types_defined, with_scalar, with_built_ins, types_of}
use Rattle.schema_rules.specs.Reserved.{begins_reserved, reserved_at, reserved}
use Rattle.schema_rules.specs.DirectiveUses.{given_weight, is_lax}
use Rattle.schema_rules.proofs.FirstFaults.{neither, not_told}
use Rattle.schema_model.specs.Drafts.{TypeDraft, body_draft, definition_draft, scalar_draft, defined_drafts, drafts_of}
use Rattle.schema_model.specs.SchemaData.{TypeData, SchemaData, type_name_of, type_named}
use Rattle.schema_model.specs.Schemas.{types_from, schema_with}
use Rattle.schema_model.specs.SchemaViews.{schema_data}
use Rattle.schema_model.specs.declared.schema.Schema.{Schema}
use Rattle.schema_model.specs.Faults.{is_reserved, at_place, fault_of_items, fault_from_names, SchemaBuilds}

-- None of these names is reserved.
abbrev ArePlain : List (List ℕ) → Type 0
ArePlain [] = Unit {0}
ArePlain (name ∷ names) = (begins_reserved name ≡ false) × ArePlain names

-- nothing is found in things, so nothing in either part of them
parted : (xs ys : List ItemTree) → reserved (xs ++ ys) ≡ None → (reserved xs ≡ None) × (reserved ys ≡ None)
parted [] ys none = (refl, none)
parted (i ∷ xs) ys none =
    let here = neither (reserved_at i) (reserved (xs ++ ys)) none in
    let behind = parted xs ys here.1 in
    (by (reserved_at i) here.0 behind.0, behind.1)
  where
    by : (at : Option PlaceTree) → at ≡ None → reserved xs ≡ None → or_else at (reserved xs) ≡ None
    by None is later = later
    by (Some place) is later = is

-- ---- the types that a text defines, and the built-in scalars

types_plain : (items : List ItemTree) → reserved items ≡ None → ArePlain (map name_of (types_defined items))
types_plain [] none = tt
types_plain (i ∷ items) none = let both = neither (reserved_at i) (reserved items) none in by i both.0 (types_plain items both.1)
  where
    by : (i : ItemTree) → reserved_at i ≡ None → ArePlain (map name_of (types_defined items)) → ArePlain (map name_of (types_defined (i ∷ items)))
    by (type_item name kind is_empty directives) own later = (not_told (begins_reserved name) (place_of (type_item name kind is_empty directives)) own, later)
    by (schema_item directives) own later = later
    by (root_item kind name) own later = later
    by (interface_item of name) own later = later
    by (member_item of name) own later = later
    by (field_item of name) own later = later
    by (argument_item of field input) own later = later
    by (field_type_item of name type directives) own later = later
    by (enum_value_item of name directives) own later = later
    by (input_field_item of input) own later = later
    by (directive_item name) own later = later
    by (directive_argument_item directive input) own later = later

scalar_plain : (name : List ℕ) (types : List NamedKind) → begins_reserved name ≡ false → ArePlain (map name_of types) → ArePlain (map name_of (with_scalar name types))
scalar_plain name types own plain = elim (cases_Bool (has_name name_of types name)) [
  | inl there ↦ rw there plain
  | inr none ↦ rw none (behind types plain)
]
  where
    behind : (ts : List NamedKind) → ArePlain (map name_of ts) → ArePlain (map name_of (ts ++ (record { name = name; kind = Scalar } ∷ [])))
    behind [] p = (own, tt)
    behind (t ∷ ts) p = (p.0, behind ts p.1)

scalars_plain : (types : List NamedKind) → ArePlain (map name_of types) → ArePlain (map name_of (with_built_ins types))
scalars_plain types plain =
    let int = with_scalar (codes "Int") types in
    let float = with_scalar (codes "Float") int in
    let string = with_scalar (codes "String") float in
    let boolean = with_scalar (codes "Boolean") string in
    scalar_plain (codes "ID") boolean refl (scalar_plain (codes "Boolean") string refl (scalar_plain (codes "String") float refl (scalar_plain (codes "Float") int refl (scalar_plain (codes "Int") types refl plain))))

-- ---- their drafts

abbrev draft_name : TypeDraft → List ℕ
draft_name d = d.name

left_plain : (n : ℕ) (types : List NamedKind) → ArePlain (map name_of types) → ArePlain (map draft_name (map scalar_draft (drop n types)))
left_plain zero [] plain = tt
left_plain zero (t ∷ types) plain = (plain.0, left_plain zero types plain.1)
left_plain (suc n) [] plain = tt
left_plain (suc n) (t ∷ types) plain = left_plain n types plain.1

joined : (xs ys : List TypeDraft) → ArePlain (map draft_name xs) → ArePlain (map draft_name ys) → ArePlain (map draft_name (xs ++ ys))
joined [] ys x y = y
joined (d ∷ xs) ys x y = (x.0, joined xs ys x.1 y)

-- nothing is found in a type that is written before others
own : (name : List ℕ) (place : PlaceTree) (others : Option PlaceTree) → or_else (fault_where (begins_reserved name) place) others ≡ None → begins_reserved name ≡ false
own name place others none = not_told (begins_reserved name) place (neither (fault_where (begins_reserved name) place) others none).0

module _ (types : List NamedKind) where
  body_plain : (name : NameText) (cost : Option (List ℕ)) (lax : Bool) (directives : List DirectiveTree) (body : BodyTree) → reserved (body_items name directives body) ≡ None → ArePlain (map draft_name (body_draft types name cost lax body))
  body_plain name cost lax directives (schema_body roots) none = tt
  body_plain name cost lax directives scalar_body none = (own name _ _ none, tt)
  body_plain name cost lax directives (object_body interfaces fields) none = (own name _ _ none, tt)
  body_plain name cost lax directives (interface_body interfaces fields) none = (own name _ _ none, tt)
  body_plain name cost lax directives (union_body members) none = (own name _ _ none, tt)
  body_plain name cost lax directives (enum_body values) none = (own name _ _ none, tt)
  body_plain name cost lax directives (input_body fields) none = (own name _ _ none, tt)
  body_plain name cost lax directives (directive_body arguments repeatable locations) none = tt

  drafts_plain : (text : List DefinitionTree) → reserved (items_of text) ≡ None → ArePlain (map draft_name (defined_drafts types text))
  drafts_plain [] none = tt
  drafts_plain (d ∷ text) none =
      let parts = parted (definition_items d) (items_of text) none in
      joined (definition_draft types d) (defined_drafts types text) (body_plain d.1.0 (given_weight d.1.1) (is_lax d.1.1) d.1.1 d.1.2 parts.0) (drafts_plain text parts.1)

-- ---- the types of the schema

from_plain : (form : ℕ → InputForm) (first : ℕ) (ds : List TypeDraft) → ArePlain (map draft_name ds) → ArePlain (map type_name_of (types_from form first ds))
from_plain form first [] plain = tt
from_plain form first (d ∷ ds) plain = (plain.0, from_plain form (first + length d.fields) ds plain.1)

not_named : (types : List TypeData) (name : List ℕ) (n : ℕ) → ArePlain (map type_name_of types) → begins_reserved name ≡ true → position_from (λ t. bytes_eq (type_name_of t) name) n types ≡ None
not_named [] name n plain is = refl
not_named (t ∷ types) name n plain is = elim (cases_Bool (bytes_eq (type_name_of t) name)) [
  | inl same ↦ absurd (true≢false (sym is ∙ (ap begins_reserved (sym ((bytes_eq-Decides (type_name_of t) name).0 same)) ∙ plain.0)))
  | inr differs ↦ rw differs (not_named types name (n + 1) plain.1 is)
]

unmapped : {A B : Type 0} (f : A → B) (found : Option A) → option_map f found ≡ None → found ≡ None
unmapped f None none = refl
unmapped f (Some x) none = absurd (cc)

pub no_reserved_type : (text : List DefinitionTree) (schema : Schema) (name : List ℕ) → SchemaBuilds text (Ok schema) → begins_reserved name ≡ true → type_named (schema_data schema) name ≡ None
unfolding SchemaBuilds
no_reserved_type text schema name built is =
    let items = items_of text in
    let types = types_of items in
    let ds = drafts_of types text in
    let defined = defined_drafts types text in
    let of_items = (neither (fault_of_items items) (fault_from_names types ds items) built.0).0 in
    let behind = (neither _ _ of_items).1 in
    let none = unmapped _ (reserved items) ((neither _ _ behind).1) in
    let scalars = left_plain (length defined) types (scalars_plain (types_defined items) (types_plain items none)) in
    let plain = joined defined (map scalar_draft (drop (length defined) types)) (drafts_plain types text none) scalars in
    let form = (built.1).0 in
    ap (λ (s : SchemaData). type_named s name) (((built.1).2).1) ∙ not_named (types_from form 0 ds) name 0 (from_plain form 0 ds plain) is
