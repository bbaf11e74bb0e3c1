-- What is known of a field and of the one that it implements.
use Rattle.std.proofs.Common.{◌≡◌, ◌⊎◌, ℕ, Bool, true, false, List, [], map, Option, None, Some, inl, inr, refl, sym, ap, ◌∙◌}
use Rattle.std.specs.Prelude.{not, nat_eq, ◌||◌, is_none, option_map, if◌then◌else◌}
use Rattle.std.specs.List.{list_any, list_all}
use Rattle.std.specs.Str.{bytes_eq}
use Rattle.std.proofs.lemmas.Bool.{eqb-true, not-false}
use Rattle.std.proofs.lemmas.Option.{none-some, same_Some}
use Rattle.std.proofs.lemmas.Slice.Eq.{bytes_eq-Decides}
use Rattle.input_values.specs.coercion.Forms.{InputForm}
use Rattle.input_values.specs.inputs.Shapes.{ShapeTree, named_shape, list_shape}
use Rattle.schema_rules.specs.declared.kind.Kind.TheVariants.{Scalar}
use Rattle.schema_rules.specs.Places.{PlaceTree, at_type}
use Rattle.schema_rules.specs.First.{fault_where}
use Rattle.schema_rules.specs.Items.{ItemTree}
use Rattle.schema_rules.specs.TypeNames.{NamedKind}
use Rattle.schema_rules.proofs.Namings.{find_view}
use Rattle.gql_base.specs.names.Names.{first_of_name}
use Rattle.schema_model.specs.Drafts.{InputDraft, FieldDraft, TypeDraft, bare}
use Rattle.schema_model.specs.Implementing.{draft_at, is_kind_of, is_no_looser, is_narrower, is_same, agree, argument_named, field_among, is_same_argument, has_argument, is_implemented, maybe_implemented, has_field, lacks_interfaces, lacking_at, lacking_of, lacking_field, in_type, lack_at, not_implemented}
use Rattle.schema_model.specs.Schemas.{input_of}
use Rattle.schema_model.specs.SchemaData.{SchemaData, field_at, field_named}
use Rattle.cost_directives.specs.Weights.{input_name}
use Rattle.cost_directives.specs.Weighing.{is_list_shape, type_inside}
use Rattle.cost_directives.specs.SlicingUnknown.{is_no_argument}
use Rattle.cost_directives.specs.SlicingNotInt.{is_int_shape, is_no_int, is_of_no_int}
use Rattle.cost_directives.specs.SizedUnknown.{is_list_field, is_no_list_field}
use Rattle.cost_directives.proofs.FirstsFound.{none_at, none_among, none_found, found_passes, all_found, both}
use Rattle.cost_directives.proofs.DraftedFields.{has_name_of, FieldOf, made, field_or_none}
use Rattle.cost_directives.proofs.PlainDrafts.{IsPlain}

-- ---- choices

unlacking : (lacks : Bool) (place : PlaceTree) (of : List ℕ) (field : Option (List ℕ)) → (if lacks then Some place else in_type of field) ≡ None → field ≡ None
unlacking true place of field none = absurd (cc)
unlacking false place of None none = refl
unlacking false place of (Some name) none = absurd (cc)

untold : {F : Type 0} (right : Bool) (fault : F) → fault_where (not right) fault ≡ None → right ≡ true
untold true fault none = refl
untold false fault none = absurd (cc)

either : (a b : Bool) → a || b ≡ true → (a ≡ true) ⊎ (b ≡ true)
either true b e = inl refl
either false b e = inr e

-- ---- shapes

-- a narrower type is a list where the wanted one is
pub lists_alike : (types : List TypeDraft) (own wanted : ShapeTree) → is_narrower types own wanted ≡ true → is_list_shape own ≡ is_list_shape wanted
unfolding is_narrower
lists_alike types (named_shape own n) (named_shape wanted m) narrower = refl
lists_alike types (list_shape own n) (list_shape wanted m) narrower = refl
lists_alike types (named_shape own n) (list_shape wanted m) narrower = absurd (cc)
lists_alike types (list_shape own n) (named_shape wanted m) narrower = absurd (cc)

-- and what it returns is of the kind of what the wanted one returns
pub kinds_inside : (types : List TypeDraft) (own wanted : ShapeTree) → is_narrower types own wanted ≡ true → is_kind_of types (type_inside own) (type_inside wanted) ≡ true
unfolding is_narrower type_inside
kinds_inside types (named_shape own n) (named_shape wanted m) narrower = (both (is_no_looser n m) (is_kind_of types own wanted) narrower).1
kinds_inside types (list_shape own n) (list_shape wanted m) narrower = kinds_inside types own wanted (both (is_no_looser n m) (is_narrower types own wanted) narrower).1
kinds_inside types (named_shape own n) (list_shape wanted m) narrower = absurd (cc)
kinds_inside types (list_shape own n) (named_shape wanted m) narrower = absurd (cc)

ints_alike : (s : SchemaData) (own wanted : ShapeTree) → is_same own wanted ≡ true → is_int_shape s own ≡ is_int_shape s wanted
unfolding is_same
ints_alike s (named_shape own n) (named_shape wanted m) same = ap (λ of. is_int_shape s (named_shape of m)) (eqb-true own wanted (both (nat_eq own wanted) (agree n m) same).0)
ints_alike s (list_shape own n) (list_shape wanted m) same = refl
ints_alike s (named_shape own n) (list_shape wanted m) same = absurd (cc)
ints_alike s (list_shape own n) (named_shape wanted m) same = absurd (cc)

-- ---- arguments

module _ (form : ℕ → InputForm) (own wanted : FieldDraft) (all : list_all (has_argument own.arguments) wanted.arguments ≡ true) where
  same_shape : (found : Option InputDraft) (a : InputDraft) → is_same_argument found a ≡ true → (b : InputDraft) × (found ≡ Some b) × (is_same b.shape a.shape ≡ true)
  same_shape None a same = absurd (cc)
  same_shape (Some b) a same = (b, refl, same)

  -- an argument that is wanted is there, with its type
  argument_there : (name : List ℕ) (a : InputDraft) → argument_named wanted.arguments name ≡ Some a → (b : InputDraft) × (argument_named own.arguments name ≡ Some b) × (is_same b.shape a.shape ≡ true)
  argument_there name a found =
      let named : a.name ≡ name = (bytes_eq-Decides a.name name).0 (found_passes (λ d. bytes_eq d.name name) wanted.arguments a found) in
      let has : has_argument own.arguments a ≡ true = all_found (has_argument own.arguments) (λ d. bytes_eq d.name name) wanted.arguments a found all in
      same_shape (argument_named own.arguments name) a (sym (ap (λ n. is_same_argument (argument_named own.arguments n) a) named) ∙ has)

  seen : (drafts : List InputDraft) (name : List ℕ) → first_of_name input_name (map (input_of form) drafts) name ≡ option_map (input_of form) (argument_named drafts name)
  seen drafts name = sym (find_view (input_of form) (λ i. bytes_eq (input_name i) name) drafts)

  is_named : (found : Option InputDraft) → is_none (option_map (input_of form) found) ≡ false → (a : InputDraft) × (found ≡ Some a)
  is_named None e = absurd (cc)
  is_named (Some a) e = (a, refl)

  wanted_there : (name : List ℕ) → is_no_argument (map (input_of form) wanted.arguments) name ≡ false → (a : InputDraft) × (argument_named wanted.arguments name ≡ Some a)
  wanted_there name there = is_named (argument_named wanted.arguments name) (sym (ap is_none (seen wanted.arguments name)) ∙ there)

  pub is_argument : (name : List ℕ) → is_no_argument (map (input_of form) wanted.arguments) name ≡ false → is_no_argument (map (input_of form) own.arguments) name ≡ false
  is_argument name there =
      let a = wanted_there name there in
      let b = argument_there name a.0 a.1 in
      ap is_none (seen own.arguments name ∙ ap (option_map (input_of form)) b.1)

  pub is_int : (s : SchemaData) (name : List ℕ) → is_no_argument (map (input_of form) wanted.arguments) name ≡ false → is_of_no_int s (map (input_of form) wanted.arguments) name ≡ false
      → is_of_no_int s (map (input_of form) own.arguments) name ≡ false
  is_int s name there int =
      let a = wanted_there name there in
      let b = argument_there name a.0 a.1 in
      ap (is_no_int s) (seen own.arguments name ∙ ap (option_map (input_of form)) b.1)
      ∙ (ap not (ints_alike s b.0.shape a.0.shape b.2)
      ∙ (sym (ap (is_no_int s) (seen wanted.arguments name ∙ ap (option_map (input_of form)) a.1)) ∙ int))

-- ---- fields

module _ (form : ℕ → InputForm) (items : List ItemTree) (types : List NamedKind) (ds : List TypeDraft) (kept : not_implemented ds ≡ None) (plain : (of : ℕ) → IsPlain (draft_at ds of)) where
  has_wanted : (of above : ℕ) (name : List ℕ) (wanted : FieldDraft) → list_any (nat_eq above) (draft_at ds of).interfaces ≡ true → field_among (draft_at ds above).fields name ≡ Some wanted → has_field ds (draft_at ds of).fields wanted ≡ true
  has_wanted of above name wanted among found =
      let t = draft_at ds of in
      let lacks_none : lack_at ds t ≡ None = none_at (lack_at ds) ds (bare [] Scalar None false) of refl kept in
      let no_field_lacks : lacking_field ds t.fields t.interfaces ≡ None = unlacking (lacks_interfaces ds t.interfaces t.interfaces) (at_type t.name) t.name (lacking_field ds t.fields t.interfaces) lacks_none in
      let none_of_it : lacking_of ds t.fields above ≡ None = none_among (lacking_of ds t.fields) t.interfaces above among no_field_lacks in
      untold (has_field ds t.fields wanted) wanted.name (none_found (lacking_at ds t.fields) (has_name_of name) (draft_at ds above).fields wanted found none_of_it)

  implements : (found : Option FieldDraft) (wanted : FieldDraft) → maybe_implemented ds found wanted ≡ true → (own : FieldDraft) × (found ≡ Some own) × (is_implemented ds own wanted ≡ true)
  implements None wanted e = absurd (cc)
  implements (Some own) wanted e = (own, refl, e)

  -- a field of an interface is there in a type that names the interface, as it is wanted
  pub kept_field : (of above : ℕ) (name : List ℕ) (wanted : FieldDraft) → list_any (nat_eq above) (draft_at ds of).interfaces ≡ true → field_among (draft_at ds above).fields name ≡ Some wanted
      → (own : FieldDraft) × (field_among (draft_at ds of).fields name ≡ Some own) × (is_implemented ds own wanted ≡ true)
  kept_field of above name wanted among found =
      let named : wanted.name ≡ name = (bytes_eq-Decides wanted.name name).0 (found_passes (has_name_of name) (draft_at ds above).fields wanted found) in
      implements (field_among (draft_at ds of).fields name) wanted
      (sym (ap (λ n. maybe_implemented ds (field_among (draft_at ds of).fields n) wanted) named) ∙ has_wanted of above name wanted among found)

  abbrev s : SchemaData
  s = made form items types ds

  listed : (found : Option ℕ) → not (is_list_field s found) ≡ false → (m : ℕ) × (found ≡ Some m) × (is_list_shape (field_at s m).shape ≡ true)
  listed None e = absurd (cc)
  listed (Some m) e = (m, refl, not-false (is_list_shape (field_at s m).shape) e)

  -- a list field of an interface is one of a type that names the interface
  list_of_interface : (own wanted : ℕ) (name : List ℕ) (w : FieldOf form s ds wanted name) → list_any (nat_eq wanted) (draft_at ds own).interfaces ≡ true → is_list_shape (field_at s w.number).shape ≡ true
      → is_no_list_field s own name ≡ false
  list_of_interface own wanted name w among list =
      let k = kept_field own wanted name w.draft among w.drafted in
      let alike : is_list_shape k.0.shape ≡ is_list_shape w.draft.shape = lists_alike ds k.0.shape w.draft.shape (both (is_narrower ds k.0.shape w.draft.shape) _ k.2).0 in
      let list_there : is_list_shape w.draft.shape ≡ true = sym (ap (λ f. is_list_shape f.shape) w.field) ∙ list in
      elim (field_or_none form items types ds own name) [
        | inl none ↦ absurd (none-some k.0 (sym none.1 ∙ k.1))
        | inr f ↦
            let same : f.draft ≡ k.0 = same_Some f.draft k.0 (sym f.drafted ∙ k.1) in
            ap (λ found. not (is_list_field s found)) f.named
            ∙ ap not (ap (λ field. is_list_shape field.shape) f.field ∙ (ap (λ d. is_list_shape d.shape) same ∙ (alike ∙ list_there)))
      ]

  no_member : (n : ℕ) → list_any (nat_eq n) [] ≡ true → ⊥
  no_member n e = cc

  -- a list field of a type is one of each type of its kind
  pub list_below : (own wanted : ℕ) → is_kind_of ds own wanted ≡ true → (name : List ℕ) → is_no_list_field s wanted name ≡ false → is_no_list_field s own name ≡ false
  list_below own wanted is name list =
      let found = listed (field_named s wanted name) list in
      elim (either (nat_eq own wanted) _ is) [
        | inl same ↦ ap (λ of. is_no_list_field s of name) (eqb-true own wanted same) ∙ list
        | inr other ↦ elim (field_or_none form items types ds wanted name) [
          | inl none ↦ absurd (none-some found.0 (sym none.0 ∙ found.1))
          | inr w ↦
              let number : found.0 ≡ w.number = same_Some found.0 w.number (sym found.1 ∙ w.named) in
              elim (either (list_any (nat_eq wanted) (draft_at ds own).interfaces) _ other) [
                | inl among ↦ list_of_interface own wanted name w among (sym (ap (λ n. is_list_shape (field_at s n).shape) number) ∙ found.2)
                | inr member ↦ elim (plain wanted) [
                  | inl no_members ↦ absurd (no_member own (sym (ap (list_any (nat_eq own)) no_members) ∙ member))
                  | inr no_fields ↦ absurd (none-some w.draft (sym (ap (λ fields. field_among fields name) no_fields) ∙ w.drafted))
                ]
              ]
        ]
      ]
