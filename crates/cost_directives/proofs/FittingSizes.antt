-- Sizes of fields, their own and those of interfaces, fit the fields.
use Rattle.std.proofs.Common.{◌≡◌, ◌⊎◌, ◌+◌, ℕ, Bool, true, false, List, [], ◌∷◌, map, length, Option, None, Some, inl, inr, refl, sym, ap, subst, ◌∙◌, arith}
use Rattle.std.specs.Prelude.{nat_eq, option_map, Ok}
use Rattle.std.specs.List.{list_any, list_all}
use Rattle.std.proofs.lemmas.Bool.{cases_lt, cases_Bool, eq-eqb}
use Rattle.std.proofs.lemmas.List.{get_or_past}
use Rattle.std.proofs.lemmas.Option.{none-some, same_Some}
use Rattle.std.proofs.lemmas.Slice.Eq.{bytes_eq-Decides}
use Rattle.input_values.specs.coercion.Forms.{InputForm}
use Rattle.schema_reader.specs.Schemas.{DefinitionTree}
use Rattle.schema_rules.specs.First.{first_of}
use Rattle.schema_rules.specs.Items.{ItemTree, items_of}
use Rattle.schema_rules.specs.TypeNames.{NamedKind, types_of}
use Rattle.schema_model.specs.Drafts.{FieldDraft, TypeDraft, drafts_of}
use Rattle.schema_model.specs.Implementing.{draft_at, is_narrower, field_among, has_argument, is_implemented, not_implemented}
use Rattle.schema_model.specs.Schemas.{input_of, field_of}
use Rattle.schema_model.specs.SchemaData.{FieldData, SizeData, SchemaData, type_at, field_at}
use Rattle.schema_model.specs.SchemaViews.{schema_data}
use Rattle.schema_model.specs.declared.schema.Schema.{Schema}
use Rattle.schema_model.specs.Faults.{fault_of_items, fault_of_names, fault_of_types, fault_of_drafts, fault_from_types, fault_from_names, SchemaBuilds}
use Rattle.cost_directives.specs.Weighing.{is_list_shape, type_inside, first_carried, carried_by, carried_in, carried_above, own_or, inherited, own_size}
use Rattle.cost_directives.specs.Weights.{field_numbers}
use Rattle.cost_directives.specs.FieldPlaces.{is_sized, name_in, field_told, name_told, place_of_field, name_at}
use Rattle.cost_directives.specs.NotAList.{hands_nothing, is_no_list, not_a_list}
use Rattle.cost_directives.specs.Dotted.{names_a_path, is_dotted, dotted}
use Rattle.cost_directives.specs.SlicingUnknown.{is_no_argument, slicing_of_none, unknown_slicing, slicing_unknown}
use Rattle.cost_directives.specs.SlicingNotInt.{is_of_no_int, slicing_of_no_int, other_slicing, slicing_not_int}
use Rattle.cost_directives.specs.SizedOnList.{hands_some, is_sized_list, sized_on_list}
use Rattle.cost_directives.specs.SizedUnknown.{is_no_list_field, sized_of_none, unknown_sized, sized_unknown}
use Rattle.cost_directives.specs.NegativeSize.{assumes_less, is_negative, negative_size}
use Rattle.cost_directives.specs.DirectiveFaults.{first_directive_fault, fault_of_weights, fault_of_sizes}
use Rattle.cost_directives.specs.Fitting.{Fits, SizesFit}
use Rattle.schema_rules.proofs.FirstFaults.{neither, not_told}
use Rattle.cost_directives.proofs.FirstsFound.{none_from, both, finds_less, found_passes}
use Rattle.cost_directives.proofs.DraftedFields.{has_name_of, FieldOf, made, own_interfaces, field_or_none}
use Rattle.cost_directives.proofs.PlainDrafts.{IsPlain, plain_drafts}
use Rattle.cost_directives.proofs.Implemented.{lists_alike, kinds_inside, is_argument, is_int, kept_field, list_below}

-- ---- tests that find nothing

pub unmapped : {A B : Type 0} (f : A → B) (found : Option A) → option_map f found ≡ None → found ≡ None
unmapped f None none = refl
unmapped f (Some x) none = absurd (cc)

-- what the tests of sizes find, one after another
record Clean (s : SchemaData) : Type 0 where
  listed : not_a_list s ≡ None
  pathless : dotted s ≡ None
  known : slicing_unknown s ≡ None
  ints : slicing_not_int s ≡ None
  unlisted : sized_on_list s ≡ None
  sized : sized_unknown s ≡ None
  counting : negative_size s ≡ None

clean : (s : SchemaData) → first_directive_fault s ≡ None → Clean s
clean s none =
    let halves = neither (fault_of_weights s) (fault_of_sizes s) none in
    let weights = neither _ _ halves.0 in
    let lists = neither _ _ weights.1 in
    let slicing = neither _ _ lists.1 in
    let ints = neither _ _ slicing.1 in
    let sizes = neither _ _ halves.1 in
    let below = neither _ _ sizes.1 in
    let numbers = neither _ _ below.1 in
    record {
      listed = unmapped _ (not_a_list s) lists.0;
      pathless = unmapped _ (dotted s) slicing.0;
      known = unmapped _ (slicing_unknown s) ints.0;
      ints = unmapped _ (slicing_not_int s) ints.1;
      unlisted = unmapped _ (sized_on_list s) sizes.0;
      sized = unmapped _ (sized_unknown s) below.0;
      counting = unmapped _ (negative_size s) numbers.0;
    }

module _ (s : SchemaData) where
  -- a test of fields finds nothing at any number, where it finds nothing at what stands elsewhere
  right_at : (wrong : FieldData → Bool) → wrong s.other_field ≡ false → first_of (field_told s wrong) (field_numbers s) ≡ None → (n : ℕ) → wrong (field_at s n) ≡ false
  right_at wrong other none n = elim (cases_lt n (length s.fields)) [
    | inl within ↦
        let e : 0 + n ≡ n = omega arith in
        not_told (wrong (field_at s n)) (place_of_field s (field_at s n)) (sym (ap (field_told s wrong) e) ∙ none_from (field_told s wrong) 0 (length s.fields) n within none)
    | inr past ↦ ap wrong (get_or_past s.fields n s.other_field past) ∙ other
  ]

  named_right : (wrong : FieldData → Option (List ℕ)) → wrong s.other_field ≡ None → first_of (name_told s wrong) (field_numbers s) ≡ None → (n : ℕ) → wrong (field_at s n) ≡ None
  named_right wrong other none n = elim (cases_lt n (length s.fields)) [
    | inl within ↦
        let e : 0 + n ≡ n = omega arith in
        unmapped (name_at s (field_at s n)) (wrong (field_at s n)) (sym (ap (name_told s wrong) e) ∙ none_from (name_told s wrong) 0 (length s.fields) n within none)
    | inr past ↦ ap wrong (get_or_past s.fields n s.other_field past) ∙ other
  ]

-- ---- what is carried

record Carried {A : Type 0} (get : ℕ → Option A) (numbers : List ℕ) (a : A) : Type 0 where
  at : ℕ
  among : list_any (nat_eq at) numbers ≡ true
  is : get at ≡ Some a

first_there : {A : Type 0} (get : ℕ → Option A) (n : ℕ) (numbers : List ℕ) (a : A) (here : Option A) → get n ≡ here → (first_carried (map get numbers) ≡ Some a → Carried get numbers a)
    → first_carried (here ∷ map get numbers) ≡ Some a → Carried get (n ∷ numbers) a
first_there get n numbers a None is behind first =
    let later = behind first in
    record { at = later.at; among = elim (cases_Bool (nat_eq later.at n)) [ inl t ↦ rw t refl | inr t ↦ rw t later.among ]; is = later.is }
first_there get n numbers a (Some b) is behind first = record { at = n; among = rw (eq-eqb n n refl) refl; is = is ∙ first }

carried : {A : Type 0} (get : ℕ → Option A) (numbers : List ℕ) (a : A) → first_carried (map get numbers) ≡ Some a → Carried get numbers a
carried get [] a first = absurd (none-some a first)
carried get (n ∷ numbers) a first = first_there get n numbers a (get n) refl (carried get numbers a) first

own_or_carried : {A : Type 0} (own above : Option A) (a : A) → own_or own above ≡ Some a → (own ≡ Some a) ⊎ (above ≡ Some a)
own_or_carried None above a e = inr e
own_or_carried (Some b) above a e = inl e

-- ---- fields that fit

module _ (form : ℕ → InputForm) (items : List ItemTree) (types : List NamedKind) (ds : List TypeDraft) (kept : not_implemented ds ≡ None) (plain : (of : ℕ) → IsPlain (draft_at ds of)) (tests : Clean (made form items types ds)) where
  abbrev s : SchemaData
  s = made form items types ds

  own_fits : (n : ℕ) (size : SizeData) → own_size (field_at s n) ≡ Some size → Fits s size (field_at s n)
  own_fits n size own =
      let f = field_at s n in
      record {
        of_a_list = ap (is_sized (hands_nothing (is_list_shape f.shape))) (sym own) ∙ right_at s is_no_list refl tests.listed n;
        without_paths = ap (is_sized names_a_path) (sym own) ∙ right_at s is_dotted refl tests.pathless n;
        slices_by_arguments = ap (name_in (slicing_of_none f.arguments)) (sym own) ∙ named_right s unknown_slicing refl tests.known n;
        slices_by_ints = ap (name_in (slicing_of_no_int s f.arguments)) (sym own) ∙ named_right s (other_slicing s) refl tests.ints n;
        from_no_list = ap (is_sized (hands_some (is_list_shape f.shape))) (sym own) ∙ right_at s is_sized_list refl tests.unlisted n;
        to_lists = ap (name_in (sized_of_none s (type_inside f.shape))) (sym own) ∙ named_right s (unknown_sized s) refl tests.sized n;
        not_negative = ap (is_sized assumes_less) (sym own) ∙ right_at s is_negative refl tests.counting n;
      }

  -- a size that fits a field of an interface fits the field that implements it
  still_fits : (of above : ℕ) (own wanted : FieldDraft) (size : SizeData) → is_implemented ds own wanted ≡ true → Fits s size (field_of form above wanted) → Fits s size (field_of form of own)
  still_fits of above own wanted size implemented fits =
      let parts = both (is_narrower ds own.shape wanted.shape) _ implemented in
      let arguments : list_all (has_argument own.arguments) wanted.arguments ≡ true = (both (list_all (has_argument own.arguments) wanted.arguments) _ parts.1).0 in
      let lists = lists_alike ds own.shape wanted.shape parts.0 in
      let kinds = kinds_inside ds own.shape wanted.shape parts.0 in
      let own_args = map (input_of form) own.arguments in
      let wanted_args = map (input_of form) wanted.arguments in
      let below_own = type_inside own.shape in
      let below_wanted = type_inside wanted.shape in
      record {
        of_a_list = ap (λ list. hands_nothing list size) lists ∙ fits.of_a_list;
        without_paths = fits.without_paths;
        slices_by_arguments = finds_less (is_no_argument wanted_args) (is_no_argument wanted_args) (is_no_argument own_args) (λ name there _. is_argument form own wanted arguments name there) size.slicing fits.slices_by_arguments fits.slices_by_arguments;
        slices_by_ints = finds_less (is_no_argument wanted_args) (is_of_no_int s wanted_args) (is_of_no_int s own_args) (λ name there int. is_int form own wanted arguments s name there int) size.slicing fits.slices_by_arguments fits.slices_by_ints;
        from_no_list = ap (λ list. hands_some list size) lists ∙ fits.from_no_list;
        to_lists = finds_less (is_no_list_field s below_wanted) (is_no_list_field s below_wanted) (is_no_list_field s below_own) (λ name list _. list_below form items types ds kept plain below_own below_wanted kinds name list) size.sized fits.to_lists fits.to_lists;
        not_negative = fits.not_negative;
      }

  taken_fits : (of : ℕ) (name : List ℕ) (size : SizeData) (f : FieldOf form s ds of name) → first_carried (carried_above s own_size (field_of form of f.draft)) ≡ Some size → Fits s size (field_of form of f.draft)
  taken_fits of name size f above =
      let named : f.draft.name ≡ name = (bytes_eq-Decides f.draft.name name).0 (found_passes (has_name_of name) (draft_at ds of).fields f.draft f.drafted) in
      let c = carried (carried_in s own_size f.draft.name) (type_at s of).interfaces size above in
      let among : list_any (nat_eq c.at) (draft_at ds of).interfaces ≡ true = sym (ap (list_any (nat_eq c.at)) (own_interfaces form items types ds of)) ∙ c.among in
      elim (field_or_none form items types ds c.at f.draft.name) [
        | inl none ↦ absurd (none-some size (sym (ap (carried_by s own_size) none.0) ∙ c.is))
        | inr w ↦
            let own : own_size (field_at s w.number) ≡ Some size = sym (ap (carried_by s own_size) w.named) ∙ c.is in
            let wanted_fits : Fits s size (field_of form c.at w.draft) = subst (Fits s size) w.field (own_fits w.number size own) in
            let k = kept_field form items types ds kept plain of c.at f.draft.name w.draft among w.drafted in
            let same : k.0 ≡ f.draft = same_Some k.0 f.draft (sym k.1 ∙ (ap (field_among (draft_at ds of).fields) named ∙ f.drafted)) in
            subst (λ d. Fits s size (field_of form of d)) same (still_fits of c.at k.0 w.draft size k.2 wanted_fits)
      ]

  sizes_fit : SizesFit s
  sizes_fit of number name size named has = elim (field_or_none form items types ds of name) [
    | inl none ↦ absurd (none-some number (sym none.0 ∙ named))
    | inr f ↦
        let same : f.number ≡ number = same_Some f.number number (sym f.named ∙ named) in
        let own = own_size (field_at s f.number) in
        let above = first_carried (carried_above s own_size (field_at s f.number)) in
        subst (λ n. Fits s size (field_at s n)) same (elim (own_or_carried own above size (ap (λ n. inherited s own_size (field_at s n)) same ∙ has)) [
          | inl is ↦ own_fits f.number size is
          | inr is ↦ subst (Fits s size) (sym f.field) (taken_fits of name size f (sym (ap (λ g. first_carried (carried_above s own_size g)) f.field) ∙ is))
        ])
  ]

pub fit_in_schema : (text : List DefinitionTree) (schema : Schema) → SchemaBuilds text (Ok schema) → first_directive_fault (schema_data schema) ≡ None → SizesFit (schema_data schema)
unfolding SchemaBuilds
fit_in_schema text schema built none =
    let items = items_of text in
    let types = types_of items in
    let ds = drafts_of types text in
    let of_names = neither (fault_of_items items) (fault_from_names types ds items) built.0 in
    let of_types = neither (fault_of_names types items) (fault_from_types ds items) of_names.1 in
    let of_drafts = neither (fault_of_types items) (fault_of_drafts ds items) of_types.1 in
    let kept : not_implemented ds ≡ None = unmapped _ (not_implemented ds) (neither _ _ of_drafts.1).0 in
    let form = (built.1).0 in
    let is : schema_data schema ≡ made form items types ds = ((built.1).2).1 in
    subst SizesFit (sym is) (sizes_fit form items types ds kept (plain_drafts types text) (clean (made form items types ds) (sym (ap first_directive_fault is) ∙ none)))
