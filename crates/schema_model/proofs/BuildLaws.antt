-- What a text builds is one thing: a schema, or a fault.
use Rattle.std.proofs.Common.{◌≡◌, ◌⊎◌, inl, inr, ℕ, Bool, true, List, length, Option, None, Some, Ok, Err, refl, sym, ap, ◌∙◌, subst}
use Rattle.std.proofs.lemmas.Option.{none-some, same_Some, slice_get_past}
use Rattle.input_values.specs.coercion.Forms.{InputForm}
use Rattle.input_values.specs.defaults.Drafts.{draft_fields, AreFilled}
use Rattle.input_values.proofs.FillingSteps.OneFilling.{one_filling}
use Rattle.input_values.proofs.FillingSteps.SomeFilling.{some_filling}
use Rattle.schema_reader.specs.Schemas.{DefinitionTree}
use Rattle.schema_rules.specs.Places.{PlaceTree, place_text}
use Rattle.schema_rules.specs.Items.{ItemTree, items_of}
use Rattle.schema_rules.specs.TypeNames.{NamedKind, types_of}
use Rattle.schema_model.specs.Drafts.{TypeDraft, drafts_of}
use Rattle.schema_model.specs.Defaults.{all_asked, asked_or}
use Rattle.schema_model.specs.BadDefault.{bad_default}
use Rattle.schema_model.specs.SchemaData.{SchemaData}
use Rattle.schema_model.specs.Schemas.{schema_with}
use Rattle.schema_model.specs.SchemaViews.{schema_data}
use Rattle.schema_model.specs.declared.schema.Schema.{Schema}
use Rattle.schema_model.specs.declared.fault.SchemaFault.{SchemaFault}
use Rattle.schema_model.specs.declared.fault.SchemaFault.TheVariants.{TooMany, Repeated, Reserved, UnknownType, NoQuery, WrongKind, FloatScalar, NestedList, EmptyType, NotImplemented, BadDirective, BadDefault, Memory}
use Rattle.schema_model.specs.Faults.{FaultTree, has_too_many, is_repeated, is_reserved, is_unknown, lacks_query, has_wrong_kind, is_float, is_nested, is_empty, is_not_implemented, has_bad_directive, fault_if, maybe_text, OfForms, FailsIf, SaysIf, BuildsIf, SchemaBuilds, SaysSchema, HasTestFault}

-- the fault of the program that says a fault
abbrev saying : FaultTree → SchemaFault
saying (has_too_many counted) = TooMany counted
saying (is_repeated place) = Repeated place
saying (is_reserved place) = Reserved place
saying (is_unknown name) = UnknownType name
saying lacks_query = NoQuery
saying (has_wrong_kind place) = WrongKind place
saying (is_float place) = FloatScalar place
saying (is_nested place) = NestedList place
saying (is_empty name) = EmptyType name
saying (is_not_implemented place) = NotImplemented place
saying (has_bad_directive place) = BadDirective place

none_some : {A B : Type 0} (o : Option A) (x : A) → o ≡ None → o ≡ Some x → B
none_some o x none some = absurd (none-some x (sym none ∙ some))

module _ (refused : Bool) (types : List NamedKind) (drafts : List TypeDraft) (items : List ItemTree) where
  abbrev HasBad : List ℕ → Type 0
  HasBad place = OfForms drafts (λ form. maybe_text (bad_default form types items) ≡ Some place)

  -- another fault, or a bad default
  abbrev IsTold : SchemaFault → Type 0
  IsTold fault = ((f : FaultTree) × (fault_if refused types drafts items ≡ Some f) × (fault ≡ saying f)) ⊎ ((place : List ℕ) × (fault ≡ BadDefault place) × (fault_if refused types drafts items ≡ None) × HasBad place)

  told : (fault : SchemaFault) → FailsIf refused types drafts items fault → (fault ≡ Memory) ⊎ IsTold fault
  told (TooMany counted) is = inr (inl (has_too_many counted, is, refl))
  told (Repeated place) is = inr (inl (is_repeated place, is, refl))
  told (Reserved place) is = inr (inl (is_reserved place, is, refl))
  told (UnknownType name) is = inr (inl (is_unknown name, is, refl))
  told NoQuery is = inr (inl (lacks_query, is, refl))
  told (WrongKind place) is = inr (inl (has_wrong_kind place, is, refl))
  told (FloatScalar place) is = inr (inl (is_float place, is, refl))
  told (NestedList place) is = inr (inl (is_nested place, is, refl))
  told (EmptyType name) is = inr (inl (is_empty name, is, refl))
  told (NotImplemented place) is = inr (inl (is_not_implemented place, is, refl))
  told (BadDirective place) is = inr (inl (has_bad_directive place, is, refl))
  told (BadDefault place) is = inr (inr (place, refl, is.0, is.1))
  told Memory is = inl refl

  one_place : (form : ℕ → InputForm) → AreFilled (all_asked drafts) form → (place : List ℕ) → HasBad place → maybe_text (bad_default form types items) ≡ Some place
  one_place form filled place bad = subst (λ other. maybe_text (bad_default other types items) ≡ Some place) (one_filling (all_asked drafts) bad.0 form bad.1 filled) bad.2

  no_fault : (s : SchemaData) (fault : SchemaFault) → SaysIf refused types drafts items s → FailsIf refused types drafts items fault → fault ≡ Memory
  no_fault s fault built fails = elim (told fault fails) [
    | inl memory ↦ memory
    | inr is ↦ elim is [
      | inl other ↦ none_some (fault_if refused types drafts items) other.0 built.0 other.1
      | inr bad ↦ none_some (maybe_text (bad_default (built.1).0 types items)) bad.0 (ap maybe_text ((built.1).2).0) (one_place (built.1).0 (built.1).1 bad.0 bad.3)
    ]
  ]

  same_told : (one other : SchemaFault) → IsTold one → IsTold other → one ≡ other
  same_told one other a b = elim a [
    | inl f ↦ elim b [
      | inl g ↦ f.2 ∙ (ap saying (same_Some f.0 g.0 (sym f.1 ∙ g.1)) ∙ sym g.2)
      | inr g ↦ none_some (fault_if refused types drafts items) f.0 g.2 f.1
    ]
    | inr f ↦ elim b [
      | inl g ↦ none_some (fault_if refused types drafts items) g.0 f.2 g.1
      | inr g ↦ f.1 ∙ (ap BadDefault (same_Some f.0 g.0 (sym (f.3).2 ∙ one_place (f.3).0 (f.3).1 g.0 g.3)) ∙ sym g.1)
    ]
  ]

  one_fault : (one other : SchemaFault) → FailsIf refused types drafts items one → FailsIf refused types drafts items other → (one ≡ Memory) ⊎ ((other ≡ Memory) ⊎ (one ≡ other))
  one_fault one other a b = elim (told one a) [
    | inl memory ↦ inl memory
    | inr f ↦ elim (told other b) [
      | inl memory ↦ inr (inl memory)
      | inr g ↦ inr (inr (same_told one other f g))
    ]
  ]

  one_schema : (one other : Schema) → BuildsIf refused types drafts items (Ok one) → BuildsIf refused types drafts items (Ok other) → schema_data one ≡ schema_data other
  one_schema one other a b =
      ((a.1).2).1 ∙ (ap (λ form. schema_with form items types drafts) (one_filling (all_asked drafts) (a.1).0 (b.1).0 (a.1).1 (b.1).1) ∙ sym ((b.1).2).1)

  -- a schema or a fault, where these are the forms of types

  saying_fails : (f : FaultTree) → fault_if refused types drafts items ≡ Some f → FailsIf refused types drafts items (saying f)
  saying_fails (has_too_many counted) is = is
  saying_fails (is_repeated place) is = is
  saying_fails (is_reserved place) is = is
  saying_fails (is_unknown name) is = is
  saying_fails lacks_query is = is
  saying_fails (has_wrong_kind place) is = is
  saying_fails (is_float place) is = is
  saying_fails (is_nested place) is = is
  saying_fails (is_empty name) is = is
  saying_fails (is_not_implemented place) is = is
  saying_fails (has_bad_directive place) is = is

  no_memory : (f : FaultTree) → saying f ≡ Memory → ⊥
  no_memory (has_too_many counted) is = cc
  no_memory (is_repeated place) is = cc
  no_memory (is_reserved place) is = cc
  no_memory (is_unknown name) is = cc
  no_memory lacks_query is = cc
  no_memory (has_wrong_kind place) is = cc
  no_memory (is_float place) is = cc
  no_memory (is_nested place) is = cc
  no_memory (is_empty name) is = cc
  no_memory (is_not_implemented place) is = cc
  no_memory (has_bad_directive place) is = cc

  abbrev Either : Type 0
  Either = ((s : SchemaData) × SaysIf refused types drafts items s) ⊎ ((fault : SchemaFault) × (FailsIf refused types drafts items fault × (fault ≡ Memory → ⊥)))

  either_default : (form : ℕ → InputForm) → AreFilled (all_asked drafts) form → fault_if refused types drafts items ≡ None → (bad : Option PlaceTree) → bad_default form types items ≡ bad → Either
  either_default form filled none None good = inl (schema_with form items types drafts, (none, (form, filled, (good, refl))))
  either_default form filled none (Some place) bad = inr (BadDefault (place_text place), ((none, (form, filled, ap maybe_text bad)), λ memory. cc))

  pub either : (fault : Option FaultTree) → fault_if refused types drafts items ≡ fault → Either
  either (Some f) is = inr (saying f, (saying_fails f is, no_memory f))
  either None none =
      let filled = some_filling (all_asked drafts) (length drafts) (λ of past. ap (λ d. draft_fields (asked_or d)) (slice_get_past drafts of past)) in
      either_default filled.0 filled.1 none (bad_default filled.0 types items) refl

-- ## Of a text

pub text_either : (text : List DefinitionTree) → ((s : SchemaData) × SaysSchema text s) ⊎ ((fault : SchemaFault) × HasTestFault text fault)
unfolding SaysSchema SchemaBuilds
text_either text = either true (types_of (items_of text)) (drafts_of (types_of (items_of text)) text) (items_of text) (fault_if true (types_of (items_of text)) (drafts_of (types_of (items_of text)) text) (items_of text)) refl

pub text_built : (text : List DefinitionTree) (s : Schema) → SchemaBuilds text (Ok s) → SaysSchema text (schema_data s)
unfolding SaysSchema SchemaBuilds
text_built text s built = built

pub text_no_fault : (text : List DefinitionTree) (s : Schema) (fault : SchemaFault) → SchemaBuilds text (Ok s) → SchemaBuilds text (Err fault) → fault ≡ Memory
unfolding SchemaBuilds
text_no_fault text s fault = no_fault true (types_of (items_of text)) (drafts_of (types_of (items_of text)) text) (items_of text) (schema_data s) fault

pub text_one_fault : (text : List DefinitionTree) (one other : SchemaFault) → SchemaBuilds text (Err one) → SchemaBuilds text (Err other) → (one ≡ Memory) ⊎ ((other ≡ Memory) ⊎ (one ≡ other))
unfolding SchemaBuilds
text_one_fault text one other = one_fault true (types_of (items_of text)) (drafts_of (types_of (items_of text)) text) (items_of text) one other

pub text_one_schema : (text : List DefinitionTree) (one other : Schema) → SchemaBuilds text (Ok one) → SchemaBuilds text (Ok other) → schema_data one ≡ schema_data other
unfolding SchemaBuilds
text_one_schema text one other = one_schema true (types_of (items_of text)) (drafts_of (types_of (items_of text)) text) (items_of text) one other

pub text_not_both : (text : List DefinitionTree) (s : SchemaData) (fault : SchemaFault) → SaysSchema text s → HasTestFault text fault → ⊥
unfolding SaysSchema SchemaBuilds
text_not_both text s fault says fails = fails.1 (no_fault true (types_of (items_of text)) (drafts_of (types_of (items_of text)) text) (items_of text) s fault says fails.0)
