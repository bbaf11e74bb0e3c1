-- The interfaces that the types of a text name are interfaces.
use Rattle.std.proofs.Common.{◌≡◌, ⊎_elim, ℕ, zero, suc, ◌+◌, ◌<◌, List, [], ◌∷◌, ◌++◌, map, flat_map, drop, get_or, length, Bool, true, false, not, true≢false, ◌||◌, eqb-true, bytes_eq, Option, Some, None, refl, sym, ap, ◌∙◌, subst, append_assoc, append-nil, arith}
use Rattle.std.specs.Prelude.{nat_eq, codes, if◌then◌else◌}
use Rattle.std.specs.List.{list_any}
use Rattle.std.proofs.lemmas.Bool.{cases_Bool, not-false, or_parts}
use Rattle.std.proofs.lemmas.List.{get_or-map, length-map, map-append, drop_at}
use Rattle.gql_base.specs.names.Names.{has_name}
use Rattle.gql_base.specs.parts.Arguments.{DirectiveTree}
use Rattle.input_values.specs.coercion.Forms.{InputForm}
use Rattle.schema_reader.specs.Schemas.{NameText, FieldDefTree, BodyTree, schema_body, scalar_body, object_body, interface_body, union_body, enum_body, input_body, directive_body, DefinitionTree}
use Rattle.schema_rules.specs.declared.kind.Kind.{Kind}
use Rattle.schema_rules.specs.declared.kind.Kind.TheVariants.{Scalar, Object, Interface, Union, Enum, Input}
use Rattle.schema_rules.specs.Kinds.{is_interface}
use Rattle.schema_rules.specs.First.{first_of}
use Rattle.schema_rules.specs.Items.{ItemTree, interface_item, member_item, argument_item, input_field_item, directive_argument_item, type_item, root_item_of, field_type_of, enum_value_of, field_items, is_none_of, body_items, definition_items, items_of, place_of}
use Rattle.schema_rules.specs.TypeNames.{NamedKind, name_of, with_type, types_defined, with_scalar, with_built_ins, types_of, kind_or_scalar, kind_named}
use Rattle.schema_rules.specs.WrongKind.{is_wrong, wrong_at}
use Rattle.schema_rules.specs.DirectiveUses.{given_weight, is_lax}
use Rattle.schema_rules.proofs.FirstFaults.{neither, not_told}
use Rattle.schema_model.specs.Drafts.{TypeDraft, number_named, or_past, bare, body_draft, definition_draft, scalar_draft, defined_drafts, drafts_of}
use Rattle.schema_model.specs.Implementing.{draft_at}
use Rattle.schema_model.specs.Schemas.{types_from, no_type}
use Rattle.cost_directives.proofs.FirstsFound.{Standing, standing, never}
use Rattle.document_rules.proofs.Lists.{first_of_append}
use Rattle.stripped_responses.proofs.RewrittenFields.{Each, each_append}

in_each : (P : ℕ → Type 0) (ns : List ℕ) (n : ℕ) → Each P ns → list_any (nat_eq n) ns ≡ true → P n
in_each P [] n each among = absurd (true≢false (sym among))
in_each P (m ∷ ns) n each among = ⊎_elim
    (λ (here : nat_eq n m ≡ true). subst P (sym (eqb-true n m here)) each.0)
    (λ (later : nat_eq n m ≡ false). in_each P ns n each.1 (sym (ap (λ (b : Bool). b || list_any (nat_eq n) ns) later) ∙ among))
    (cases_Bool (nat_eq n m))

-- ---- things that define no type

abbrev DefinesNone : ItemTree → Type 0
DefinesNone item = (others : List NamedKind) → with_type item others ≡ others

none_defined : (xs rest : List ItemTree) → Each DefinesNone xs → types_defined (xs ++ rest) ≡ types_defined rest
none_defined [] rest none = refl
none_defined (x ∷ xs) rest none = none.0 (types_defined (xs ++ rest)) ∙ none_defined xs rest none.1

each_mapped : {A : Type 0} (f : A → ItemTree) → ((x : A) → DefinesNone (f x)) → (xs : List A) → Each DefinesNone (map f xs)
each_mapped f none [] = tt
each_mapped f none (x ∷ xs) = (none x, each_mapped f none xs)

fields_define_none : (of : NameText) (fields : List FieldDefTree) → Each DefinesNone (flat_map (field_items of) fields)
fields_define_none of [] = tt
fields_define_none of (f ∷ fields) =
    each_append DefinesNone (field_items of f) (flat_map (field_items of) fields)
    (λ others. refl, each_append DefinesNone (map (argument_item of f.1) f.2) (field_type_of of f ∷ []) (each_mapped (argument_item of f.1) (λ x others. refl) f.2) (λ others. refl, tt))
    (fields_define_none of fields)

parts_define_none : (name : NameText) (interfaces : List NameText) (fields : List FieldDefTree) → Each DefinesNone (map (interface_item name) interfaces ++ flat_map (field_items name) fields)
parts_define_none name interfaces fields = each_append DefinesNone (map (interface_item name) interfaces) (flat_map (field_items name) fields) (each_mapped (interface_item name) (λ x others. refl) interfaces) (fields_define_none name fields)

-- ---- drafts have the names and the kinds of the types

abbrev pub named_kind : TypeDraft → NamedKind
named_kind d = record { name = d.name; kind = d.kind }

module _ (types : List NamedKind) where
  body_kinds : (name : NameText) (cost : Option (List ℕ)) (lax : Bool) (directives : List DirectiveTree) (body : BodyTree) (rest : List ItemTree) → types_defined (body_items name directives body ++ rest) ≡ map named_kind (body_draft types name cost lax body) ++ types_defined rest
  body_kinds name cost lax directives (schema_body roots) rest = none_defined (map root_item_of roots) rest (each_mapped root_item_of (λ x others. refl) roots)
  body_kinds name cost lax directives (directive_body arguments repeatable locations) rest = none_defined (map (directive_argument_item name) arguments) rest (each_mapped (directive_argument_item name) (λ x others. refl) arguments)
  body_kinds name cost lax directives scalar_body rest = refl
  body_kinds name cost lax directives (object_body interfaces fields) rest = ap (λ (ts : List NamedKind). record { name = name; kind = Object } ∷ ts) (none_defined (map (interface_item name) interfaces ++ flat_map (field_items name) fields) rest (parts_define_none name interfaces fields))
  body_kinds name cost lax directives (interface_body interfaces fields) rest = ap (λ (ts : List NamedKind). record { name = name; kind = Interface } ∷ ts) (none_defined (map (interface_item name) interfaces ++ flat_map (field_items name) fields) rest (parts_define_none name interfaces fields))
  body_kinds name cost lax directives (union_body members) rest = ap (λ (ts : List NamedKind). record { name = name; kind = Union } ∷ ts) (none_defined (map (member_item name) members) rest (each_mapped (member_item name) (λ x others. refl) members))
  body_kinds name cost lax directives (enum_body values) rest = ap (λ (ts : List NamedKind). record { name = name; kind = Enum } ∷ ts) (none_defined (map (enum_value_of name) values) rest (each_mapped (enum_value_of name) (λ x others. refl) values))
  body_kinds name cost lax directives (input_body fields) rest = ap (λ (ts : List NamedKind). record { name = name; kind = Input } ∷ ts) (none_defined (map (input_field_item name) fields) rest (each_mapped (input_field_item name) (λ x others. refl) fields))

  text_kinds : (text : List DefinitionTree) → types_defined (items_of text) ≡ map named_kind (defined_drafts types text)
  text_kinds [] = refl
  text_kinds (d ∷ text) =
      body_kinds d.1.0 (given_weight d.1.1) (is_lax d.1.1) d.1.1 d.1.2 (items_of text)
      ∙ (ap (λ (ts : List NamedKind). map named_kind (definition_draft types d) ++ ts) (text_kinds text) ∙ sym (map-append named_kind (definition_draft types d) (defined_drafts types text)))

-- The types are these, and scalars behind them.
record Extends (own types : List NamedKind) : Type 0 where
  more : List NamedKind
  whole : types ≡ own ++ more
  scalars : map named_kind (map scalar_draft more) ≡ more

one_more : (own types : List NamedKind) (name : List ℕ) → Extends own types → Extends own (with_scalar name types)
one_more own types name x = by_name (has_name name_of types name)
  where
    added : NamedKind
    added = record { name = name; kind = Scalar }

    by_name : (b : Bool) → Extends own (if b then types else types ++ (added ∷ []))
    by_name true = x
    by_name false = record {
      more = x.more ++ (added ∷ []);
      whole = ap (λ (ts : List NamedKind). ts ++ (added ∷ [])) x.whole ∙ append_assoc own x.more (added ∷ []);
      scalars = ap (map named_kind) (map-append scalar_draft x.more (added ∷ [])) ∙ (map-append named_kind (map scalar_draft x.more) (scalar_draft added ∷ []) ∙ ap (λ (ts : List NamedKind). ts ++ (added ∷ [])) x.scalars);
    }

all_more : (own : List NamedKind) → Extends own (with_built_ins own)
all_more own =
    let a = with_scalar (codes "Int") own in
    let b = with_scalar (codes "Float") a in
    let c = with_scalar (codes "String") b in
    let d = with_scalar (codes "Boolean") c in
    let none : Extends own own = record { more = []; whole = sym (append-nil own); scalars = refl } in
    one_more own d (codes "ID") (one_more own c (codes "Boolean") (one_more own b (codes "String") (one_more own a (codes "Float") (one_more own own (codes "Int") none))))

pub kinds_agree : (text : List DefinitionTree) → map named_kind (drafts_of (types_of (items_of text)) text) ≡ types_of (items_of text)
kinds_agree text =
    let types : List NamedKind = types_of (items_of text) in
    let own : List TypeDraft = defined_drafts types text in
    let x : Extends (types_defined (items_of text)) types = all_more (types_defined (items_of text)) in
    let whole : types ≡ map named_kind own ++ x.more = x.whole ∙ ap (λ (ts : List NamedKind). ts ++ x.more) (text_kinds types text) in
    let left : drop (length own) types ≡ x.more = ap (drop (length own)) whole ∙ drop_at (map named_kind own) x.more (length own) (length-map own named_kind) in
    map-append named_kind own (map scalar_draft (drop (length own) types))
    ∙ (ap (λ (ts : List NamedKind). map named_kind own ++ map named_kind (map scalar_draft ts)) left ∙ (ap (λ (ts : List NamedKind). map named_kind own ++ ts) x.scalars ∙ sym whole))

-- ---- interfaces by their names

module _ (types : List NamedKind) (has : Bool) where
  -- the number of an interface, by its name
  abbrev pub IsOfInterface : ℕ → Type 0
  IsOfInterface n = (name : List ℕ) × (n ≡ number_named types name) × (is_interface (kind_named types name) ≡ true)

  both_right : (xs ys : List ItemTree) → first_of (wrong_at types has) (xs ++ ys) ≡ None → (first_of (wrong_at types has) xs ≡ None) × (first_of (wrong_at types has) ys ≡ None)
  both_right xs ys none = neither (first_of (wrong_at types has) xs) (first_of (wrong_at types has) ys) (sym (first_of_append (wrong_at types has) xs ys) ∙ none)

  named_interfaces : (of : NameText) (names : List NameText) → first_of (wrong_at types has) (map (interface_item of) names) ≡ None → Each IsOfInterface (map (number_named types) names)
  named_interfaces of [] none = tt
  named_interfaces of (n ∷ names) none =
      let apart = neither (wrong_at types has (interface_item of n)) (first_of (wrong_at types has) (map (interface_item of) names)) none in
      let right = or_parts (not (is_interface (kind_named types n))) (bytes_eq n of) (not_told (is_wrong types has (interface_item of n)) (place_of (interface_item of n)) apart.0) in
      ((n, refl, not-false (is_interface (kind_named types n)) right.0), named_interfaces of names apart.1)

  abbrev AreOfInterfaces : List TypeDraft → Type 0
  AreOfInterfaces ds = (of : ℕ) → Each IsOfInterface (draft_at ds of).interfaces

  in_parts : (name : NameText) (kind : Kind) (directives : List DirectiveTree) (interfaces : List NameText) (fields : List FieldDefTree) → first_of (wrong_at types has) (type_item name kind (is_none_of fields) directives ∷ (map (interface_item name) interfaces ++ flat_map (field_items name) fields)) ≡ None
      → Each IsOfInterface (map (number_named types) interfaces)
  in_parts name kind directives interfaces fields none =
      let parts : List ItemTree = map (interface_item name) interfaces ++ flat_map (field_items name) fields in
      named_interfaces name interfaces (both_right (map (interface_item name) interfaces) (flat_map (field_items name) fields) (neither (wrong_at types has (type_item name kind (is_none_of fields) directives)) (first_of (wrong_at types has) parts) none).1).0

  body_interfaces : (name : NameText) (cost : Option (List ℕ)) (lax : Bool) (directives : List DirectiveTree) (body : BodyTree) (rest : List TypeDraft) → first_of (wrong_at types has) (body_items name directives body) ≡ None → AreOfInterfaces rest → AreOfInterfaces (body_draft types name cost lax body ++ rest)
  body_interfaces name cost lax directives (schema_body roots) rest none others of = others of
  body_interfaces name cost lax directives (directive_body arguments repeatable locations) rest none others of = others of
  body_interfaces name cost lax directives scalar_body rest none others zero = tt
  body_interfaces name cost lax directives scalar_body rest none others (suc of) = others of
  body_interfaces name cost lax directives (object_body interfaces fields) rest none others zero = in_parts name Object directives interfaces fields none
  body_interfaces name cost lax directives (object_body interfaces fields) rest none others (suc of) = others of
  body_interfaces name cost lax directives (interface_body interfaces fields) rest none others zero = in_parts name Interface directives interfaces fields none
  body_interfaces name cost lax directives (interface_body interfaces fields) rest none others (suc of) = others of
  body_interfaces name cost lax directives (union_body members) rest none others zero = tt
  body_interfaces name cost lax directives (union_body members) rest none others (suc of) = others of
  body_interfaces name cost lax directives (enum_body values) rest none others zero = tt
  body_interfaces name cost lax directives (enum_body values) rest none others (suc of) = others of
  body_interfaces name cost lax directives (input_body fields) rest none others zero = tt
  body_interfaces name cost lax directives (input_body fields) rest none others (suc of) = others of

  text_interfaces : (text : List DefinitionTree) (rest : List TypeDraft) → first_of (wrong_at types has) (items_of text) ≡ None → AreOfInterfaces rest → AreOfInterfaces (defined_drafts types text ++ rest)
  text_interfaces [] rest none others of = others of
  text_interfaces (d ∷ text) rest none others of =
      let apart = both_right (definition_items d) (items_of text) none in
      subst (λ (drafts : List TypeDraft). Each IsOfInterface (draft_at drafts of).interfaces) (sym (append_assoc (definition_draft types d) (defined_drafts types text) rest))
      (body_interfaces d.1.0 (given_weight d.1.1) (is_lax d.1.1) d.1.1 d.1.2 (defined_drafts types text ++ rest) apart.0 (text_interfaces text rest apart.1 others) of)

  scalar_interfaces : (some : List NamedKind) → AreOfInterfaces (map scalar_draft some)
  scalar_interfaces [] of = tt
  scalar_interfaces (t ∷ some) zero = tt
  scalar_interfaces (t ∷ some) (suc of) = scalar_interfaces some of

  pub drafts_interfaces : (text : List DefinitionTree) → first_of (wrong_at types has) (items_of text) ≡ None → AreOfInterfaces (drafts_of types text)
  drafts_interfaces text none =
      let others : List NamedKind = drop (length (defined_drafts types text)) types in
      text_interfaces text (map scalar_draft others) none (scalar_interfaces others)

-- ---- the kind at a number

kind_at : (form : ℕ → InputForm) (first : ℕ) (ds : List TypeDraft) (n : ℕ) → n < length ds → (get_or (types_from form first ds) n no_type).kind ≡ (draft_at ds n).kind
kind_at form first [] n within = absurd (never n within)
kind_at form first (d ∷ ds) zero within = refl
kind_at form first (d ∷ ds) (suc n) within = kind_at form (first + length d.fields) ds n (omega (arith, within))

only_interface : (kind : Kind) → is_interface kind ≡ true → kind ≡ Interface
only_interface Interface is = refl
only_interface Scalar is = absurd (true≢false (sym is))
only_interface Object is = absurd (true≢false (sym is))
only_interface Union is = absurd (true≢false (sym is))
only_interface Enum is = absurd (true≢false (sym is))
only_interface Input is = absurd (true≢false (sym is))

module _ (form : ℕ → InputForm) (types : List NamedKind) (ds : List TypeDraft) (agree : map named_kind ds ≡ types) where
  kind_of_number : (name : List ℕ) → is_interface (kind_named types name) ≡ true → (get_or (types_from form 0 ds) (number_named types name) no_type).kind ≡ Interface
  kind_of_number name is = ⊎_elim
      (λ none. absurd (true≢false (sym is ∙ ap (λ found. is_interface (kind_or_scalar found)) none.1)))
      (λ (here : Standing (λ t. bytes_eq (name_of t) name) 0 types). (
      let long : length ds ≡ length types = sym (length-map ds named_kind) ∙ ap length agree in
      let within : here.place < length ds = omega (arith, here.within, long) in
      let e : 0 + here.place ≡ here.place = omega arith in
      let at : number_named types name ≡ here.place = ap (or_past types) (here.placed ∙ ap Some e) in
      let same : named_kind (draft_at ds here.place) ≡ here.item =
      sym (get_or-map named_kind ds here.place (bare [] Scalar None false) here.item within) ∙ (ap (λ l. get_or l here.place here.item) agree ∙ here.there) in
      let found : here.item.kind ≡ Interface = only_interface here.item.kind (sym (ap (λ o. is_interface (kind_or_scalar o)) here.found) ∙ is) in
      ap (λ n. (get_or (types_from form 0 ds) n no_type).kind) at ∙ (kind_at form 0 ds here.place within ∙ (ap (λ (t : NamedKind). t.kind) same ∙ found))
      ))
      (standing (λ t. bytes_eq (name_of t) name) 0 types)

  pub are_of_interfaces : (has : Bool) (ns : List ℕ) (I : ℕ) → Each (IsOfInterface types has) ns → list_any (nat_eq I) ns ≡ true → (get_or (types_from form 0 ds) I no_type).kind ≡ Interface
  are_of_interfaces has ns I each among =
      let of = in_each (IsOfInterface types has) ns I each among in
      ap (λ n. (get_or (types_from form 0 ds) n no_type).kind) of.1 ∙ kind_of_number of.0 of.2
