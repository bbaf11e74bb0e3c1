-- The types of a schema that a text says have different names.
use Rattle.std.proofs.Common.{◌≡◌, ◌⊎◌, inl, inr, ℕ, zero, suc, ◌+◌, ◌<◌, min, not, Bool, true, false, true≢false, ◌||◌, List, [], ◌∷◌, ◌++◌, length, map, drop, get_or, Option, Some, None, Ok, refl, sym, ap, ap₂, ◌∙◌, subst, append_assoc, append-nil, arith}
use Rattle.std.specs.Prelude.{codes, flat_map}
use Rattle.std.specs.List.{list_any, position_from}
use Rattle.std.specs.Str.{bytes_eq}
use Rattle.std.proofs.Math.Nat.{min-le_left}
use Rattle.std.proofs.lemmas.Bool.{cases_Bool, not-true, or_right}
use Rattle.std.proofs.lemmas.List.{get_or-map, length-map, map-append, drop_at}
use Rattle.std.proofs.lemmas.List.Folds.{list_any-append}
use Rattle.std.proofs.lemmas.Option.{none-some, same_Some}
use Rattle.std.proofs.lemmas.Slice.Eq.{bytes_eq-Decides}
use Rattle.gql_base.specs.names.Names.{has_name, are_distinct, repeated_from, first_repeated}
use Rattle.gql_base.specs.parts.Arguments.{DirectiveTree}
use Rattle.gql_base.proofs.NameLaws.RepeatedLaws.{none_distinct}
use Rattle.gql_base.proofs.WayLaws.WordLaws.{left_false, right_false}
use Rattle.input_values.specs.coercion.Forms.{InputForm}
use Rattle.schema_reader.specs.Schemas.{NameText, FieldDefTree, BodyTree, schema_body, scalar_body, object_body, interface_body, union_body, enum_body, input_body, directive_body, DefinitionTree}
use Rattle.schema_rules.specs.declared.kind.Kind.TheVariants.{Scalar}
use Rattle.schema_rules.specs.Items.{ItemTree, schema_item, root_item, type_item, interface_item, member_item, field_item, argument_item, field_type_item, enum_value_item, input_field_item, directive_item, directive_argument_item, root_item_of, enum_value_of, field_items, field_type_of, body_items, definition_items, items_of, place_of}
use Rattle.schema_rules.specs.TypeNames.{NamedKind, name_of, with_type, types_defined, with_scalar, with_built_ins, types_of}
use Rattle.schema_rules.specs.Repeated.{key_of, takes_built_in, earlier, place_at, repeated}
use Rattle.schema_rules.specs.DirectiveUses.{given_weight, is_lax}
use Rattle.schema_rules.proofs.FirstFaults.{neither}
use Rattle.schema_model.specs.Drafts.{TypeDraft, body_draft, definition_draft, scalar_draft, defined_drafts, drafts_of}
use Rattle.schema_model.specs.SchemaData.{TypeData, SchemaData}
use Rattle.schema_model.specs.SchemaViews.{schema_data}
use Rattle.schema_model.specs.Schemas.{types_from}
use Rattle.schema_model.specs.declared.schema.Schema.{Schema}
use Rattle.schema_model.specs.Faults.{fault_of_items, fault_from_names, SchemaBuilds}
use Rattle.cost_directives.proofs.FittingSizes.{unmapped}
use Rattle.cost_directives.proofs.FirstsFound.{both, never}
use Rattle.response_meter.specs.Metered.{TypesDiffer}

-- ---- names that differ

-- No name stands again behind itself.
abbrev Differ : List (List ℕ) → Type 0
Differ [] = Unit {0}
Differ (name ∷ names) = (list_any (bytes_eq name) names ≡ false) × Differ names

differ_if : (names : List (List ℕ)) → are_distinct names ≡ true → Differ names
differ_if [] distinct = tt
differ_if (name ∷ names) distinct =
    let parts = both (not (list_any (bytes_eq name) names)) (are_distinct names) distinct in
    (not-true (list_any (bytes_eq name) names) parts.0, differ_if names parts.1)

stands : (names : List (List ℕ)) (n : ℕ) → n < length names → list_any (bytes_eq (get_or names n [])) names ≡ true
stands [] n within = absurd (never n within)
stands (name ∷ names) zero within = rw ((bytes_eq-Decides name name).1 refl) refl
stands (name ∷ names) (suc n) within = or_right (bytes_eq (get_or names n []) name) (list_any (bytes_eq (get_or names n [])) names) (stands names n (omega (arith, within)))

not_behind : (name : List ℕ) (names : List (List ℕ)) (n : ℕ) → n < length names → list_any (bytes_eq name) names ≡ false → name ≡ get_or names n [] → ⊥
not_behind name names n within none same = true≢false (sym (stands names n within) ∙ (ap (λ (m : List ℕ). list_any (bytes_eq m) names) (sym same) ∙ none))

one_place : (names : List (List ℕ)) → Differ names → (T U : ℕ) → T < length names → U < length names → get_or names T [] ≡ get_or names U [] → T ≡ U
one_place [] differ T U t u same = absurd (never T t)
one_place (name ∷ names) differ zero zero t u same = refl
one_place (name ∷ names) differ zero (suc U) t u same = absurd (not_behind name names U (omega (arith, u)) differ.0 same)
one_place (name ∷ names) differ (suc T) zero t u same = absurd (not_behind name names T (omega (arith, t)) differ.0 (sym same))
one_place (name ∷ names) differ (suc T) (suc U) t u same = ap suc (one_place names differ.1 T U (omega (arith, t)) (omega (arith, u)) same)

-- ---- the keys of a text's things, where none is repeated

repeated_within : (seen : List (List ℕ)) (n : ℕ) (names : List (List ℕ)) (m : ℕ) → repeated_from seen n names ≡ Some m → m < n + length names
repeated_within seen n [] m found = absurd (none-some m found)
repeated_within seen n (name ∷ names) m found = elim (cases_Bool (list_any (bytes_eq name) seen)) [
  | inl again ↦ let is = same_Some n m (rw again at found) in omega (arith, is)
  | inr new ↦ let later = repeated_within (name ∷ seen) (n + 1) names m (rw new at found) in omega (arith, later)
]

has_place : (items : List ItemTree) (n : ℕ) → n < length items → place_at items (Some n) ≡ None → ⊥
has_place [] n within none = never n within
has_place (i ∷ items) zero within none = none-some (place_of i) (sym none)
has_place (i ∷ items) (suc n) within none = has_place items n (omega (arith, within)) none

none_earlier : (items : List ItemTree) (found other : Option ℕ) → ((n : ℕ) → found ≡ Some n → n < length items) → place_at items (earlier found other) ≡ None → found ≡ None
none_earlier items None other within none = refl
none_earlier items (Some n) None within none = absurd (has_place items n (within n refl) none)
none_earlier items (Some n) (Some m) within none = absurd (has_place items (min n m) (omega (arith, within n refl, min-le_left n m)) none)

keys_differ : (items : List ItemTree) → repeated items ≡ None → Differ (map key_of items)
keys_differ items none =
    let keys = map key_of items in
    let within : (n : ℕ) → first_repeated keys ≡ Some n → n < length items = λ n found. omega (arith, repeated_within [] 0 keys n found, length-map items key_of) in
    differ_if keys (none_distinct keys (none_earlier items (first_repeated keys) (position_from takes_built_in 0 items) within none))

-- ---- the types that things define: the name of each is the key of its thing

record Defines (i : ItemTree) : Type 0 where
  own : List NamedKind
  front : (types : List NamedKind) → with_type i types ≡ own ++ types
  keyed : (own ≡ []) ⊎ ((t : NamedKind) × (own ≡ t ∷ []) × (t.name ≡ key_of i))

nothing : (i : ItemTree) → ((types : List NamedKind) → with_type i types ≡ types) → Defines i
nothing i none = record { own = []; front = none; keyed = inl refl }

defines : (i : ItemTree) → Defines i
defines (type_item name kind is_empty directives) =
    let t : NamedKind = record { name = name; kind = kind } in
    record { own = t ∷ []; front = λ types. refl; keyed = inr (t, refl, refl) }
defines (schema_item directives) = nothing (schema_item directives) (λ types. refl)
defines (root_item kind name) = nothing (root_item kind name) (λ types. refl)
defines (interface_item of name) = nothing (interface_item of name) (λ types. refl)
defines (member_item of name) = nothing (member_item of name) (λ types. refl)
defines (field_item of name) = nothing (field_item of name) (λ types. refl)
defines (argument_item of field input) = nothing (argument_item of field input) (λ types. refl)
defines (field_type_item of name type directives) = nothing (field_type_item of name type directives) (λ types. refl)
defines (enum_value_item of name directives) = nothing (enum_value_item of name directives) (λ types. refl)
defines (input_field_item of input) = nothing (input_field_item of input) (λ types. refl)
defines (directive_item name) = nothing (directive_item name) (λ types. refl)
defines (directive_argument_item directive input) = nothing (directive_argument_item directive input) (λ types. refl)

abbrev names_of : List NamedKind → List (List ℕ)
names_of types = map name_of types

no_type_named : (name : List ℕ) (items : List ItemTree) → list_any (bytes_eq name) (map key_of items) ≡ false → list_any (bytes_eq name) (names_of (types_defined items)) ≡ false
no_type_named name [] none = refl
no_type_named name (i ∷ items) none =
    let d = defines i in
    let own = left_false (bytes_eq name (key_of i)) (list_any (bytes_eq name) (map key_of items)) none in
    let later = no_type_named name items (right_false (bytes_eq name (key_of i)) (list_any (bytes_eq name) (map key_of items)) none) in
    let behind : list_any (bytes_eq name) (names_of (d.own ++ types_defined items)) ≡ false = elim d.keyed [
      | inl empty ↦ ap (λ (ts : List NamedKind). list_any (bytes_eq name) (names_of (ts ++ types_defined items))) empty ∙ later
      | inr one ↦
          ap (λ (ts : List NamedKind). list_any (bytes_eq name) (names_of (ts ++ types_defined items))) one.1
          ∙ (ap (λ (key : List ℕ). bytes_eq name key || list_any (bytes_eq name) (names_of (types_defined items))) one.2 ∙ ap₂ (λ (a b : Bool). a || b) own later)
    ] in
    ap (λ (ts : List NamedKind). list_any (bytes_eq name) (names_of ts)) (d.front (types_defined items)) ∙ behind

types_differ : (items : List ItemTree) → Differ (map key_of items) → Differ (names_of (types_defined items))
types_differ [] differ = tt
types_differ (i ∷ items) differ =
    let d = defines i in
    let later = types_differ items differ.1 in
    let all : Differ (names_of (d.own ++ types_defined items)) = elim d.keyed [
      | inl empty ↦ subst (λ (ts : List NamedKind). Differ (names_of (ts ++ types_defined items))) (sym empty) later
      | inr one ↦
          let new = ap (λ (name : List ℕ). list_any (bytes_eq name) (names_of (types_defined items))) one.2 ∙ no_type_named (key_of i) items differ.0 in
          subst (λ (ts : List NamedKind). Differ (names_of (ts ++ types_defined items))) (sym one.1) (new, later)
    ] in
    subst (λ (ts : List NamedKind). Differ (names_of ts)) (sym (d.front (types_defined items))) all

-- ---- the built-in scalars behind them

-- These types begin with those, and their names differ.
record Extends (front types : List NamedKind) : Type 0 where
  more : List NamedKind
  whole : types ≡ front ++ more
  differ : Differ (names_of types)

differ_with : (name : List ℕ) (types : List NamedKind) → has_name name_of types name ≡ false → Differ (names_of types) → Differ (names_of types ++ (name ∷ []))
differ_with name [] none differ = (refl, tt)
differ_with name (t ∷ types) none differ =
    let own = left_false (bytes_eq t.name name) (has_name name_of types name) none in
    let later = right_false (bytes_eq t.name name) (has_name name_of types name) none in
    (list_any-append (bytes_eq t.name) (names_of types) (name ∷ []) ∙ ap₂ (λ (a b : Bool). a || (b || false)) differ.0 own, differ_with name types later differ.1)

scalar_behind : (front : List NamedKind) (name : List ℕ) (types : List NamedKind) → Extends front types → Extends front (with_scalar name types)
scalar_behind front name types x =
    let scalar : List NamedKind = record { name = name; kind = Scalar } ∷ [] in
    elim (cases_Bool (has_name name_of types name)) [
      | inl there ↦ record { more = x.more; whole = rw there (x.whole); differ = rw there (x.differ) }
      | inr none ↦ record {
        more = x.more ++ scalar;
        whole = rw none (ap (λ (ts : List NamedKind). ts ++ scalar) x.whole ∙ append_assoc front x.more scalar);
        differ = rw none (subst Differ (sym (map-append name_of types scalar)) (differ_with name types none x.differ));
      }
    ]

scalars_behind : (front : List NamedKind) → Differ (names_of front) → Extends front (with_built_ins front)
scalars_behind front differ =
    let int = with_scalar (codes "Int") front in
    let float = with_scalar (codes "Float") int in
    let string = with_scalar (codes "String") float in
    let boolean = with_scalar (codes "Boolean") string in
    let x : Extends front front = record { more = []; whole = sym (append-nil front); differ = differ } in
    scalar_behind front (codes "ID") boolean (scalar_behind front (codes "Boolean") string (scalar_behind front (codes "String") float (scalar_behind front (codes "Float") int (scalar_behind front (codes "Int") front x))))

-- ---- drafts have the names of the types

abbrev draft_name : TypeDraft → List ℕ
draft_name d = d.name

defined_both : (xs ys : List ItemTree) → types_defined (xs ++ ys) ≡ types_defined xs ++ types_defined ys
defined_both [] ys = refl
defined_both (i ∷ xs) ys =
    let d = defines i in
    d.front (types_defined (xs ++ ys))
    ∙ (ap (λ (ts : List NamedKind). d.own ++ ts) (defined_both xs ys)
    ∙ (sym (append_assoc d.own (types_defined xs) (types_defined ys)) ∙ ap (λ (ts : List NamedKind). ts ++ types_defined ys) (sym (d.front (types_defined xs)))))

neither_defines : (xs ys : List ItemTree) → types_defined xs ≡ [] → types_defined ys ≡ [] → types_defined (xs ++ ys) ≡ []
neither_defines xs ys x y = defined_both xs ys ∙ ap₂ (λ (ts us : List NamedKind). ts ++ us) x y

none_defines : {A : Type 0} (item : A → ItemTree) → ((x : A) (types : List NamedKind) → with_type (item x) types ≡ types) → (xs : List A) → types_defined (map item xs) ≡ []
none_defines item none [] = refl
none_defines item none (x ∷ xs) = none x (types_defined (map item xs)) ∙ none_defines item none xs

no_field_defines : (of : NameText) (fields : List FieldDefTree) → types_defined (flat_map (field_items of) fields) ≡ []
no_field_defines of [] = refl
no_field_defines of (f ∷ fields) =
    let own = neither_defines (map (argument_item of f.1) f.2) (field_type_of of f ∷ []) (none_defines (argument_item of f.1) (λ x types. refl) f.2) refl in
    neither_defines (field_items of f) (flat_map (field_items of) fields) own (no_field_defines of fields)

nothing_inside : (name : NameText) (interfaces : List NameText) (fields : List FieldDefTree) → types_defined (map (interface_item name) interfaces ++ flat_map (field_items name) fields) ≡ []
nothing_inside name interfaces fields =
    neither_defines (map (interface_item name) interfaces) (flat_map (field_items name) fields) (none_defines (interface_item name) (λ x types. refl) interfaces) (no_field_defines name fields)

module _ (types : List NamedKind) where
  body_named : (name : NameText) (cost : Option (List ℕ)) (lax : Bool) (directives : List DirectiveTree) (body : BodyTree) → names_of (types_defined (body_items name directives body)) ≡ map draft_name (body_draft types name cost lax body)
  body_named name cost lax directives (schema_body roots) = ap names_of (none_defines root_item_of (λ x types. refl) roots)
  body_named name cost lax directives scalar_body = refl
  body_named name cost lax directives (object_body interfaces fields) = ap (λ (ts : List NamedKind). name ∷ names_of ts) (nothing_inside name interfaces fields)
  body_named name cost lax directives (interface_body interfaces fields) = ap (λ (ts : List NamedKind). name ∷ names_of ts) (nothing_inside name interfaces fields)
  body_named name cost lax directives (union_body members) = ap (λ (ts : List NamedKind). name ∷ names_of ts) (none_defines (member_item name) (λ x types. refl) members)
  body_named name cost lax directives (enum_body values) = ap (λ (ts : List NamedKind). name ∷ names_of ts) (none_defines (enum_value_of name) (λ x types. refl) values)
  body_named name cost lax directives (input_body fields) = ap (λ (ts : List NamedKind). name ∷ names_of ts) (none_defines (input_field_item name) (λ x types. refl) fields)
  body_named name cost lax directives (directive_body arguments repeatable locations) = ap names_of (none_defines (directive_argument_item name) (λ x types. refl) arguments)

  text_named : (text : List DefinitionTree) → names_of (types_defined (items_of text)) ≡ map draft_name (defined_drafts types text)
  text_named [] = refl
  text_named (d ∷ text) =
      ap names_of (defined_both (definition_items d) (items_of text))
      ∙ (map-append name_of (types_defined (definition_items d)) (types_defined (items_of text))
      ∙ (ap₂ (λ (xs ys : List (List ℕ)). xs ++ ys) (body_named d.1.0 (given_weight d.1.1) (is_lax d.1.1) d.1.1 d.1.2) (text_named text) ∙ sym (map-append draft_name (definition_draft types d) (defined_drafts types text))))

scalars_named : (types : List NamedKind) → map draft_name (map scalar_draft types) ≡ names_of types
scalars_named [] = refl
scalars_named (t ∷ types) = ap (λ (names : List (List ℕ)). t.name ∷ names) (scalars_named types)

drafts_named : (text : List DefinitionTree) → Extends (types_defined (items_of text)) (types_of (items_of text)) → map draft_name (drafts_of (types_of (items_of text)) text) ≡ names_of (types_of (items_of text))
drafts_named text x =
    let front = types_defined (items_of text) in
    let types = types_of (items_of text) in
    let own = defined_drafts types text in
    let named = text_named types text in
    let long : length front ≡ length own = sym (length-map front name_of) ∙ (ap length named ∙ length-map own draft_name) in
    let left : drop (length own) types ≡ x.more = ap (drop (length own)) x.whole ∙ drop_at front x.more (length own) long in
    map-append draft_name own (map scalar_draft (drop (length own) types))
    ∙ (ap₂ (λ (xs ys : List (List ℕ)). xs ++ ys) (sym named) (scalars_named (drop (length own) types) ∙ ap names_of left)
    ∙ (sym (map-append name_of front x.more) ∙ ap names_of (sym x.whole)))

-- ---- the schema's types

abbrev type_name : TypeData → List ℕ
type_name t = t.name

types_named : (form : ℕ → InputForm) (first : ℕ) (ds : List TypeDraft) → map type_name (types_from form first ds) ≡ map draft_name ds
types_named form first [] = refl
types_named form first (d ∷ ds) = ap (λ (names : List (List ℕ)). d.name ∷ names) (types_named form (first + length d.fields) ds)

differ_by_number : (s : SchemaData) → Differ (map type_name s.types) → TypesDiffer s
differ_by_number s differ T U t u same =
    let long = length-map s.types type_name in
    one_place (map type_name s.types) differ T U (omega (arith, t, long)) (omega (arith, u, long))
    (get_or-map type_name s.types T s.other_type [] t ∙ (same ∙ sym (get_or-map type_name s.types U s.other_type [] u)))

pub built_differ : (text : List DefinitionTree) (schema : Schema) → SchemaBuilds text (Ok schema) → TypesDiffer (schema_data schema)
unfolding SchemaBuilds
built_differ text schema built =
    let items = items_of text in
    let types = types_of items in
    let ds = drafts_of types text in
    let of_items = (neither (fault_of_items items) (fault_from_names types ds items) built.0).0 in
    let behind = (neither _ _ of_items).1 in
    let unrepeated = unmapped _ (repeated items) ((neither _ _ behind).0) in
    let x = scalars_behind (types_defined items) (types_differ items (keys_differ items unrepeated)) in
    let form = (built.1).0 in
    let named : map type_name (schema_data schema).types ≡ names_of types =
    ap (λ (s : SchemaData). map type_name s.types) (((built.1).2).1) ∙ (types_named form 0 ds ∙ drafts_named text x) in
    differ_by_number (schema_data schema) (subst Differ (sym named) x.differ)
