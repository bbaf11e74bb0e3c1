-- Each leaf that a field of a schema returns can be filled, where the schema is one that a text says.
use Rattle.std.proofs.Common.{◌≡◌, ◌+◌, ◌<◌, ℕ, zero, suc, Bool, true, false, List, [], ◌∷◌, ◌++◌, map, drop, get_or, length, Option, None, Some, Ok, inl, inr, refl, sym, ap, ap₂, subst, ◌∙◌, append_assoc, append-nil, arith}
use Rattle.std.specs.Prelude.{codes, flat_map}
use Rattle.std.specs.Str.{bytes_eq}
use Rattle.std.proofs.lemmas.Bool.{cases_Bool}
use Rattle.std.proofs.lemmas.List.{get_or-map, get_or_past, length-map, map-append, drop_at}
use Rattle.std.proofs.lemmas.Option.{none-some, same_Some}
use Rattle.gql_base.specs.names.Names.{has_name}
use Rattle.gql_base.specs.parts.Arguments.{DirectiveTree}
use Rattle.gql_base.specs.parts.TypeReferences.{TypeTree, named_type, list_type, non_null_type}
use Rattle.input_values.specs.coercion.Places.{innermost as inside}
use Rattle.input_values.specs.coercion.Forms.{InputForm}
use Rattle.schema_reader.specs.Schemas.{NameText, FieldDefTree, EnumValueTree, BodyTree, schema_body, scalar_body, object_body, interface_body, union_body, enum_body, input_body, directive_body, DefinitionTree}
use Rattle.schema_rules.specs.declared.kind.Kind.{Kind}
use Rattle.schema_rules.specs.declared.kind.Kind.TheVariants.{Scalar, Object, Interface, Union, Enum, Input}
use Rattle.schema_rules.specs.Kinds.{is_input_only, is_output_only}
use Rattle.schema_rules.specs.First.{fault_where, first_of}
use Rattle.schema_rules.specs.Items.{ItemTree, type_item, field_item, interface_item, member_item, argument_item, input_field_item, directive_argument_item, root_item_of, field_type_of, enum_value_of, field_items, is_none_of, fielded_items, body_items, definition_items, items_of, place_of, innermost}
use Rattle.schema_rules.specs.TypeNames.{NamedKind, name_of, with_type, types_defined, with_scalar, with_built_ins, types_of, kind_or_scalar, kind_named}
use Rattle.schema_rules.specs.Roots.{has_schema}
use Rattle.schema_rules.specs.WrongKind.{is_wrong, wrong_at, wrong_kind}
use Rattle.schema_rules.specs.EmptyType.{empty_at, empty_type}
use Rattle.schema_rules.specs.DirectiveUses.{given_weight, is_lax}
use Rattle.schema_rules.proofs.FirstFaults.{neither, not_told}
use Rattle.input_values.specs.inputs.Shapes.{shape_by}
use Rattle.schema_model.specs.Drafts.{FieldDraft, TypeDraft, number_named, or_past, shape_of, field_draft, value_name, bare, body_draft, definition_draft, scalar_draft, defined_drafts, drafts_of}
use Rattle.schema_model.specs.Implementing.{draft_at, field_among}
use Rattle.schema_model.specs.Schemas.{types_from, no_type}
use Rattle.schema_model.specs.SchemaData.{TypeData, SchemaData, type_at}
use Rattle.schema_model.specs.SchemaViews.{schema_data}
use Rattle.schema_model.specs.declared.schema.Schema.{Schema}
use Rattle.schema_model.specs.Faults.{fault_of_items, fault_of_names, fault_of_types, fault_of_drafts, fault_from_types, fault_from_names, SchemaBuilds}
use Rattle.cost_directives.proofs.FittingSizes.{unmapped}
use Rattle.cost_directives.proofs.FirstsFound.{never, Standing, standing}
use Rattle.cost_directives.proofs.DraftedFields.{made, field_or_none}
use Rattle.document_rules.specs.Sites.{is_composite, type_of_field}
use Rattle.document_rules.proofs.Lists.{first_of_append}
use Rattle.plan_model.specs.Sound.{HasName, CanFill, CanBeFilled}

none_of_both : {A F : Type 0} (test : A → Option F) (xs ys : List A) → first_of test (xs ++ ys) ≡ None → (first_of test xs ≡ None) × (first_of test ys ≡ None)
none_of_both test xs ys none = neither (first_of test xs) (first_of test ys) (sym (first_of_append test xs ys) ∙ none)

-- ---- what the tests leave of the types of a text

module _ (types : List NamedKind) (has : Bool) where
  -- Things in which no test finds anything.
  record Clear (items : List ItemTree) : Type 0 where
    no_input : first_of (wrong_at types has) items ≡ None
    none_empty : first_of empty_at items ≡ None

  front_clear : (xs ys : List ItemTree) → Clear (xs ++ ys) → Clear xs
  front_clear xs ys c = record {
    no_input = (none_of_both (wrong_at types has) xs ys c.no_input).0;
    none_empty = (none_of_both empty_at xs ys c.none_empty).0;
  }

  back_clear : (xs ys : List ItemTree) → Clear (xs ++ ys) → Clear ys
  back_clear xs ys c = record {
    no_input = (none_of_both (wrong_at types has) xs ys c.no_input).1;
    none_empty = (none_of_both empty_at xs ys c.none_empty).1;
  }

  -- the named type of a field is none of values that are given alone
  record IsAnswered (f : FieldDraft) : Type 0 where
    type : TypeTree
    shaped : f.shape ≡ shape_of types type
    no_input : is_input_only (kind_named types (innermost type)) ≡ false

  abbrev AreAnswered : List FieldDraft → Type 0
  AreAnswered [] = Unit {0}
  AreAnswered (f ∷ fields) = IsAnswered f × AreAnswered fields

  record IsFilled (d : TypeDraft) : Type 0 where
    fields : AreAnswered d.fields
    names : d.kind ≡ Enum → HasName d.values

  abbrev AreFilled : List TypeDraft → Type 0
  AreFilled [] = Unit {0}
  AreFilled (d ∷ ds) = IsFilled d × AreFilled ds

  field_answered : (of : NameText) (f : FieldDefTree) → Clear (field_type_of of f ∷ []) → IsAnswered (field_draft types f)
  field_answered of f c = record {
    type = f.3;
    shaped = refl;
    no_input = not_told (is_wrong types has (field_type_of of f)) (place_of (field_type_of of f)) ((neither (wrong_at types has (field_type_of of f)) None c.no_input).0);
  }

  fields_answered : (of : NameText) (fields : List FieldDefTree) → Clear (flat_map (field_items of) fields) → AreAnswered (map (field_draft types) fields)
  fields_answered of [] c = tt
  fields_answered of (f ∷ fields) c =
      let arguments = map (argument_item of f.1) f.2 in
      let own = front_clear (field_items of f) (flat_map (field_items of) fields) c in (
        field_answered of f (back_clear arguments (field_type_of of f ∷ []) (back_clear (field_item of f.1 ∷ []) (arguments ++ (field_type_of of f ∷ [])) own)),
        fields_answered of fields (back_clear (field_items of f) (flat_map (field_items of) fields) c),
      )

  fielded_answered : (name : NameText) (kind : Kind) (directives : List DirectiveTree) (interfaces : List NameText) (fields : List FieldDefTree) → Clear (fielded_items name kind directives interfaces fields) → AreAnswered (map (field_draft types) fields)
  fielded_answered name kind directives interfaces fields c =
      let named = map (interface_item name) interfaces in
      let own = flat_map (field_items name) fields in
      fields_answered name fields (back_clear named own (back_clear (type_item name kind (is_none_of fields) directives ∷ []) (named ++ own) c))

  has_names : (values : List EnumValueTree) → is_none_of values ≡ false → HasName (map value_name values)
  has_names [] some = absurd (cc)
  has_names (v ∷ values) some = tt

  body_filled : (name : NameText) (cost : Option (List ℕ)) (lax : Bool) (directives : List DirectiveTree) (body : BodyTree) → Clear (body_items name directives body) → AreFilled (body_draft types name cost lax body)
  body_filled name cost lax directives (schema_body roots) c = tt
  body_filled name cost lax directives (directive_body arguments repeatable locations) c = tt
  body_filled name cost lax directives scalar_body c = (record { fields = tt; names = λ e. absurd (cc) }, tt)
  body_filled name cost lax directives (object_body interfaces fields) c = (record { fields = fielded_answered name Object directives interfaces fields c; names = λ e. absurd (cc) }, tt)
  body_filled name cost lax directives (interface_body interfaces fields) c = (record { fields = fielded_answered name Interface directives interfaces fields c; names = λ e. absurd (cc) }, tt)
  body_filled name cost lax directives (union_body members) c = (record { fields = tt; names = λ e. absurd (cc) }, tt)
  body_filled name cost lax directives (enum_body values) c =
      let some = not_told (is_none_of values) name ((neither (fault_where (is_none_of values) name) (first_of empty_at (map (enum_value_of name) values)) c.none_empty).0) in
      (record { fields = tt; names = λ e. has_names values some }, tt)
  body_filled name cost lax directives (input_body fields) c = (record { fields = tt; names = λ e. absurd (cc) }, tt)

  both_filled : (xs ys : List TypeDraft) → AreFilled xs → AreFilled ys → AreFilled (xs ++ ys)
  both_filled [] ys f g = g
  both_filled (d ∷ xs) ys f g = (f.0, both_filled xs ys f.1 g)

  text_filled : (text : List DefinitionTree) → Clear (items_of text) → AreFilled (defined_drafts types text)
  text_filled [] c = tt
  text_filled (d ∷ text) c = both_filled (definition_draft types d) (defined_drafts types text)
      (body_filled d.1.0 (given_weight d.1.1) (is_lax d.1.1) d.1.1 d.1.2 (front_clear (definition_items d) (items_of text) c))
      (text_filled text (back_clear (definition_items d) (items_of text) c))

  scalars_filled : (some : List NamedKind) → AreFilled (map scalar_draft some)
  scalars_filled [] = tt
  scalars_filled (t ∷ some) = (record { fields = tt; names = λ e. absurd (cc) }, scalars_filled some)

  drafts_filled : (text : List DefinitionTree) → Clear (items_of text) → AreFilled (drafts_of types text)
  drafts_filled text c = both_filled (defined_drafts types text) (map scalar_draft (drop (length (defined_drafts types text)) types)) (text_filled text c) (scalars_filled (drop (length (defined_drafts types text)) types))

  filled_at : (ds : List TypeDraft) (n : ℕ) → AreFilled ds → IsFilled (draft_at ds n)
  filled_at [] n f = record { fields = tt; names = λ e. absurd (cc) }
  filled_at (d ∷ ds) zero f = f.0
  filled_at (d ∷ ds) (suc n) f = filled_at ds n f.1

  answered_among : (fields : List FieldDraft) (name : List ℕ) (f : FieldDraft) → field_among fields name ≡ Some f → AreAnswered fields → IsAnswered f
  answered_among [] name f found all = absurd (none-some f found)
  answered_among (g ∷ fields) name f found all = elim (cases_Bool (bytes_eq g.name name)) [
    | inl is ↦ subst IsAnswered (same_Some g f (sym (rw is refl) ∙ found)) all.0
    | inr other ↦ answered_among fields name f (sym (rw other refl) ∙ found) all.1
  ]

-- ---- drafts have the names and kinds of the types

abbrev named : TypeDraft → NamedKind
named d = record { name = d.name; kind = d.kind }

-- things that define no types
skipped : {A : Type 0} (item : A → ItemTree) → ((x : A) (rest : List NamedKind) → with_type (item x) rest ≡ rest) → (xs : List A) (rest : List ItemTree) → types_defined (map item xs ++ rest) ≡ types_defined rest
skipped item none [] rest = refl
skipped item none (x ∷ xs) rest = none x (types_defined (map item xs ++ rest)) ∙ skipped item none xs rest

fields_skipped : (of : NameText) (fields : List FieldDefTree) (rest : List ItemTree) → types_defined (flat_map (field_items of) fields ++ rest) ≡ types_defined rest
fields_skipped of [] rest = refl
fields_skipped of (f ∷ fields) rest =
    let arguments = map (argument_item of f.1) f.2 in
    let others = flat_map (field_items of) fields in
    ap types_defined (append_assoc (field_items of f) others rest)
    ∙ (ap types_defined (append_assoc arguments (field_type_of of f ∷ []) (others ++ rest))
    ∙ (skipped (argument_item of f.1) (λ x rest. refl) f.2 (field_type_of of f ∷ (others ++ rest)) ∙ fields_skipped of fields rest))

fielded_skipped : (name : NameText) (interfaces : List NameText) (fields : List FieldDefTree) (rest : List ItemTree)
    → types_defined ((map (interface_item name) interfaces ++ flat_map (field_items name) fields) ++ rest) ≡ types_defined rest
fielded_skipped name interfaces fields rest =
    let own = flat_map (field_items name) fields in
    ap types_defined (append_assoc (map (interface_item name) interfaces) own rest) ∙ (skipped (interface_item name) (λ x rest. refl) interfaces (own ++ rest) ∙ fields_skipped name fields rest)

module _ (types : List NamedKind) where
  body_named : (name : NameText) (cost : Option (List ℕ)) (lax : Bool) (directives : List DirectiveTree) (body : BodyTree) (rest : List ItemTree)
      → types_defined (body_items name directives body ++ rest) ≡ map named (body_draft types name cost lax body) ++ types_defined rest
  body_named name cost lax directives (schema_body roots) rest = skipped root_item_of (λ x rest. refl) roots rest
  body_named name cost lax directives (directive_body arguments repeatable locations) rest = skipped (directive_argument_item name) (λ x rest. refl) arguments rest
  body_named name cost lax directives scalar_body rest = refl
  body_named name cost lax directives (object_body interfaces fields) rest = ap (λ ts. record { name = name; kind = Object } ∷ ts) (fielded_skipped name interfaces fields rest)
  body_named name cost lax directives (interface_body interfaces fields) rest = ap (λ ts. record { name = name; kind = Interface } ∷ ts) (fielded_skipped name interfaces fields rest)
  body_named name cost lax directives (union_body members) rest = ap (λ ts. record { name = name; kind = Union } ∷ ts) (skipped (member_item name) (λ x rest. refl) members rest)
  body_named name cost lax directives (enum_body values) rest = ap (λ ts. record { name = name; kind = Enum } ∷ ts) (skipped (enum_value_of name) (λ x rest. refl) values rest)
  body_named name cost lax directives (input_body fields) rest = ap (λ ts. record { name = name; kind = Input } ∷ ts) (skipped (input_field_item name) (λ x rest. refl) fields rest)

  text_named : (text : List DefinitionTree) → types_defined (items_of text) ≡ map named (defined_drafts types text)
  text_named [] = refl
  text_named (d ∷ text) =
      body_named d.1.0 (given_weight d.1.1) (is_lax d.1.1) d.1.1 d.1.2 (items_of text)
      ∙ (ap (λ ts. map named (definition_draft types d) ++ ts) (text_named text) ∙ sym (map-append named (definition_draft types d) (defined_drafts types text)))

-- The second list is the first, and scalars behind it.
record HasMore (a b : List NamedKind) : Type 0 where
  more : List NamedKind
  whole : b ≡ a ++ more
  scalars : map named (map scalar_draft more) ≡ more

with_one : (name : List ℕ) (types : List NamedKind) → HasMore types (with_scalar name types)
with_one name types = elim (cases_Bool (has_name name_of types name)) [
  | inl there ↦ record { more = []; whole = rw there (sym (append-nil types)); scalars = refl }
  | inr none ↦ record { more = record { name = name; kind = Scalar } ∷ []; whole = rw none refl; scalars = refl }
]

more_again : (a b c : List NamedKind) → HasMore a b → HasMore b c → HasMore a c
more_again a b c x y = record {
  more = x.more ++ y.more;
  whole = y.whole ∙ (ap (λ l. l ++ y.more) x.whole ∙ append_assoc a x.more y.more);
  scalars = ap (map named) (map-append scalar_draft x.more y.more) ∙ (map-append named (map scalar_draft x.more) (map scalar_draft y.more) ∙ ap₂ (λ l r. l ++ r) x.scalars y.scalars);
}

with_all : (types : List NamedKind) → HasMore types (with_built_ins types)
with_all types =
    let a = with_scalar (codes "Int") types in
    let b = with_scalar (codes "Float") a in
    let c = with_scalar (codes "String") b in
    let d = with_scalar (codes "Boolean") c in
    more_again types d (with_built_ins types)
    (more_again types c d (more_again types b c (more_again types a b (with_one (codes "Int") types) (with_one (codes "Float") a)) (with_one (codes "String") b)) (with_one (codes "Boolean") c))
    (with_one (codes "ID") d)

drafts_named : (text : List DefinitionTree) → map named (drafts_of (types_of (items_of text)) text) ≡ types_of (items_of text)
drafts_named text =
    let types = types_of (items_of text) in
    let own = defined_drafts types text in
    let all = with_all (types_defined (items_of text)) in
    let is : types_defined (items_of text) ≡ map named own = text_named types text in
    let whole : types ≡ map named own ++ all.more = all.whole ∙ ap (λ l. l ++ all.more) is in
    let left : drop (length own) types ≡ all.more = ap (drop (length own)) whole ∙ drop_at (map named own) all.more (length own) (length-map own named) in
    map-append named own (map scalar_draft (drop (length own) types))
    ∙ (ap (λ l. map named own ++ map named (map scalar_draft l)) left ∙ (ap (λ l. map named own ++ l) all.scalars ∙ sym whole))

-- ---- types of the schema

inside_shape : (types : List NamedKind) (nullable : Bool) (t : TypeTree) → inside (shape_by (number_named types) nullable t) ≡ number_named types (innermost t)
unfolding shape_by innermost
inside_shape types nullable (named_type name at) = refl
inside_shape types nullable (list_type t) = inside_shape types true t
inside_shape types nullable (non_null_type t) = inside_shape types false t

-- a type at the number of its draft
record IsDrafted (t : TypeData) (d : TypeDraft) : Type 0 where
  name : t.name ≡ d.name
  kind : t.kind ≡ d.kind
  values : t.values ≡ d.values

module _ (form : ℕ → InputForm) where
  drafted : (first : ℕ) (ds : List TypeDraft) (n : ℕ) → n < length ds → IsDrafted (get_or (types_from form first ds) n no_type) (draft_at ds n)
  drafted first [] n within = absurd (never n within)
  drafted first (d ∷ ds) zero within = record { name = refl; kind = refl; values = refl }
  drafted first (d ∷ ds) (suc n) within = drafted (first + length d.fields) ds n (omega (arith, within))

  as_many : (first : ℕ) (ds : List TypeDraft) → length (types_from form first ds) ≡ length ds
  as_many first [] = refl
  as_many first (d ∷ ds) = ap suc (as_many (first + length d.fields) ds)

fill_by_kind : (k : Kind) (t : TypeData) → is_output_only k ≡ false → is_input_only k ≡ false → (k ≡ Enum → HasName t.values) → CanFill k t
fill_by_kind Scalar t output input names = tt
fill_by_kind Enum t output input names = names refl
fill_by_kind Object t output input names = absurd (cc)
fill_by_kind Interface t output input names = absurd (cc)
fill_by_kind Union t output input names = absurd (cc)
fill_by_kind Input t output input names = absurd (cc)

module _ (form : ℕ → InputForm) (items : List ItemTree) (types : List NamedKind) (ds : List TypeDraft) (agree : map named ds ≡ types) (has : Bool) (filled : AreFilled types has ds) where
  abbrev whole : SchemaData
  whole = made form items types ds

  as_long : length ds ≡ length types
  as_long = sym (length-map ds named) ∙ ap length agree

  -- a type that stands under a name
  standing_filled : (name : List ℕ) (here : Standing (λ t. bytes_eq (name_of t) name) 0 types) → is_input_only here.item.kind ≡ false
      → is_output_only (type_at whole here.place).kind ≡ false → CanFill (type_at whole here.place).kind (type_at whole here.place)
  standing_filled name here input leaf =
      let within : here.place < length ds = omega (arith, here.within, as_long) in
      let t = drafted form 0 ds here.place within in
      let is : named (draft_at ds here.place) ≡ here.item =
      sym (get_or-map named ds here.place (bare [] Scalar None false) here.item within) ∙ (ap (λ l. get_or l here.place here.item) agree ∙ here.there) in
      let same_kind : (type_at whole here.place).kind ≡ here.item.kind = t.kind ∙ ap (λ (n : NamedKind). n.kind) is in
      fill_by_kind (type_at whole here.place).kind (type_at whole here.place) leaf (ap is_input_only same_kind ∙ input)
      (λ e. subst HasName (sym t.values) ((filled_at types has ds here.place filled).names (sym t.kind ∙ e)))

  named_filled : (name : List ℕ) → is_input_only (kind_named types name) ≡ false → is_composite whole (number_named types name) ≡ false
      → CanFill (type_at whole (number_named types name)).kind (type_at whole (number_named types name))
  named_filled name input leaf = elim (standing (λ t. bytes_eq (name_of t) name) 0 types) [
    | inl none ↦
        let past : number_named types name ≡ length types = ap (or_past types) none.0 in
        let l = as_many form 0 ds in
        let other : type_at whole (number_named types name) ≡ no_type = get_or_past (types_from form 0 ds) (number_named types name) no_type (omega (arith, past, l, as_long)) in
        absurd (composite_none (type_at whole (number_named types name)) other leaf)
    | inr here ↦
        let e : 0 + here.place ≡ here.place = omega arith in
        let at : number_named types name ≡ here.place = ap (or_past types) (here.placed ∙ ap Some e) in
        subst (λ n. CanFill (type_at whole n).kind (type_at whole n)) (sym at)
        (standing_filled name here (sym (ap (λ found. is_input_only (kind_or_scalar found)) here.found) ∙ input) (sym (ap (λ n. is_composite whole n) at) ∙ leaf))
  ]
    where
      composite_none : (t : TypeData) → t ≡ no_type → is_output_only t.kind ≡ false → ⊥
      composite_none t is leaf = let e : is_output_only t.kind ≡ true = ap (λ (u : TypeData). is_output_only u.kind) is in cc

  fields_filled : CanBeFilled whole
  fields_filled T name field found leaf = elim (field_or_none form items types ds T name) [
    | inl none ↦ absurd (none-some field (sym none.0 ∙ found))
    | inr f ↦
        let same : f.number ≡ field = same_Some f.number field (sym f.named ∙ found) in
        let a = answered_among types has (draft_at ds T).fields name f.draft f.drafted ((filled_at types has ds T filled).fields) in
        let at : type_of_field whole field ≡ number_named types (innermost a.type) =
        ap (λ n. type_of_field whole n) (sym same) ∙ (ap (λ g. inside g.shape) f.field ∙ (ap inside a.shaped ∙ inside_shape types true a.type)) in
        subst (λ n. CanFill (type_at whole n).kind (type_at whole n)) (sym at) (named_filled (innermost a.type) a.no_input (sym (ap (λ n. is_composite whole n) at) ∙ leaf))
  ]

pub built_filled : (text : List DefinitionTree) (schema : Schema) → SchemaBuilds text (Ok schema) → CanBeFilled (schema_data schema)
unfolding SchemaBuilds
built_filled text schema built =
    let items = items_of text in
    let types = types_of items in
    let ds = drafts_of types text in
    let of_names = neither (fault_of_items items) (fault_from_names types ds items) built.0 in
    let of_types = neither (fault_of_names types items) (fault_from_types ds items) of_names.1 in
    let by_name = neither _ _ of_types.0 in
    let by_type = neither (fault_of_types items) (fault_of_drafts ds items) of_types.1 in
    let floats = neither _ _ by_type.0 in
    let c : Clear types (has_schema items) items = record {
      no_input = unmapped _ (wrong_kind types items) ((neither _ _ by_name.1).1);
      none_empty = unmapped _ (empty_type items) ((neither _ _ floats.1).1);
    } in
    let form = (built.1).0 in
    let is : schema_data schema ≡ made form items types ds = ((built.1).2).1 in
    subst CanBeFilled (sym is) (fields_filled form items types ds (drafts_named text) (has_schema items) (drafts_filled types (has_schema items) text c))
