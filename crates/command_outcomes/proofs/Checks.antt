-- A schema file is checked in one way.
use Rattle.std.proofs.Common.{◌≡◌, ◌<◌, ◌⊎◌, inl, inr, ℕ, List, length, Option, None, Some, Ok, Err, refl, sym, ap, ◌∙◌, subst, arith}
use Rattle.std.proofs.lemmas.Option.{none-some, same_Some}
use Rattle.schema_reader.specs.Schemas.{DefinitionTree}
use Rattle.schema_reader.specs.declared.schema_text.SchemaTextFault.{SchemaTextFault}
use Rattle.schema_reader.specs.SchemaAnswers.{HasSchema, HasSchemaFault}
use Rattle.schema_model.specs.declared.fault.SchemaFault.{SchemaFault}
use Rattle.schema_model.specs.declared.fault.SchemaFault.TheVariants.{Memory as NoMemory}
use Rattle.schema_model.specs.declared.schema.Schema.{Schema}
use Rattle.schema_model.specs.SchemaViews.{schema_data}
use Rattle.schema_model.specs.Faults.{SchemaBuilds}
use Rattle.cost_directives.specs.declared.fault.DirectiveFault.{DirectiveFault}
use Rattle.cost_directives.specs.declared.fault.DirectiveFault.TheVariants as directive
use Rattle.cost_directives.specs.FieldPlaces.{NameAt}
use Rattle.cost_directives.specs.DirectiveFaults.{FaultTree, is_no_weight, is_no_list, is_dotted, slices_unknown, slices_no_int, sizes_from_list, sizes_unknown, is_negative, is_at_odds, first_directive_fault, IsFault}
use Rattle.command_outcomes.specs.declared.limits.TheConstants.{SCHEMA_LIMIT}
use Rattle.command_outcomes.specs.declared.checked.SchemaRefusal.{SchemaRefusal}
use Rattle.command_outcomes.specs.declared.checked.SchemaRefusal.TheVariants.{TooLarge, NotText, NoSchemaText, Fails, Misuses}
use Rattle.command_outcomes.specs.Reading.{IsText}
use Rattle.command_outcomes.specs.Check.{HoldsDefinitions, HoldsChecked, HoldsWeighed, IsUnchecked}

-- ## Faults of cost directives

abbrev saying : FaultTree → DirectiveFault
saying (is_no_weight place fault) = directive.Weight place fault
saying (is_no_list place) = directive.NotAList place
saying (is_dotted place) = directive.Dotted place
saying (slices_unknown found) = directive.SlicingUnknown found.place found.name
saying (slices_no_int found) = directive.SlicingNotInt found.place found.name
saying (sizes_from_list place) = directive.SizedOnList place
saying (sizes_unknown found) = directive.SizedUnknown found.place found.name
saying (is_negative place) = directive.NegativeSize place
saying (is_at_odds place) = directive.Disagree place

abbrev at_name : List ℕ → List ℕ → NameAt
at_name place name = record { place = place; name = name }

abbrev IsTold : DirectiveFault → Option FaultTree → Type 0
IsTold fault first = (f : FaultTree) × (first ≡ Some f) × (fault ≡ saying f)

told : (fault : DirectiveFault) (first : Option FaultTree) → IsFault fault first → (fault ≡ directive.Memory → ⊥) → IsTold fault first
told (directive.Weight place fault) first is real = (is_no_weight place fault, is, refl)
told (directive.NotAList place) first is real = (is_no_list place, is, refl)
told (directive.Dotted place) first is real = (is_dotted place, is, refl)
told (directive.SlicingUnknown place name) first is real = (slices_unknown (at_name place name), is, refl)
told (directive.SlicingNotInt place name) first is real = (slices_no_int (at_name place name), is, refl)
told (directive.SizedOnList place) first is real = (sizes_from_list place, is, refl)
told (directive.SizedUnknown place name) first is real = (sizes_unknown (at_name place name), is, refl)
told (directive.NegativeSize place) first is real = (is_negative place, is, refl)
told (directive.Disagree place) first is real = (is_at_odds place, is, refl)
told directive.Memory first is real = absurd (real refl)

not_passed : (fault : DirectiveFault) (first : Option FaultTree) → first ≡ None → IsFault fault first → (fault ≡ directive.Memory → ⊥) → ⊥
not_passed fault first none is real = let t = told fault first is real in none-some t.0 (sym none ∙ t.1)

same_directive : (fault other : DirectiveFault) (first : Option FaultTree) → IsFault fault first → IsFault other first → (fault ≡ directive.Memory → ⊥) → (other ≡ directive.Memory → ⊥) → fault ≡ other
same_directive fault other first a b real other_real =
    let t = told fault first a real in
    let u = told other first b other_real in
    t.2 ∙ (ap saying (same_Some t.0 u.0 (sym t.1 ∙ u.1)) ∙ sym u.2)

-- ## What texts have once

pub record OneSchema : Type 0 where
  pub one_text : (text : List ℕ) (trees others : List DefinitionTree) → HasSchema text trees → HasSchema text others → trees ≡ others
  pub no_text_fault : (text : List ℕ) (trees : List DefinitionTree) (fault : SchemaTextFault) → HasSchema text trees → HasSchemaFault text fault → ⊥
  pub one_text_fault : (text : List ℕ) (fault other : SchemaTextFault) → HasSchemaFault text fault → HasSchemaFault text other → fault ≡ other
  pub no_test : (text : List DefinitionTree) (s : Schema) (fault : SchemaFault) → SchemaBuilds text (Ok s) → SchemaBuilds text (Err fault) → fault ≡ NoMemory
  pub one_test : (text : List DefinitionTree) (one other : SchemaFault) → SchemaBuilds text (Err one) → SchemaBuilds text (Err other) → (one ≡ NoMemory) ⊎ ((other ≡ NoMemory) ⊎ (one ≡ other))
  pub one_schema : (text : List DefinitionTree) (one other : Schema) → SchemaBuilds text (Ok one) → SchemaBuilds text (Ok other) → schema_data one ≡ schema_data other

module _ (only : OneSchema) (bytes : List ℕ) where
  pub one_data : (one other : Schema) → HoldsChecked bytes one → HoldsChecked bytes other → schema_data one ≡ schema_data other
  one_data one other a b =
      let trees : a.0 ≡ b.0 = only.one_text bytes a.0 b.0 (a.1).is_schema (b.1).is_schema in
      only.one_schema b.0 one other (subst (λ ds. SchemaBuilds ds (Ok one)) trees a.2) b.2

  over : SCHEMA_LIMIT < length bytes → IsText SCHEMA_LIMIT bytes → ⊥
  over long text = omega (arith, long, text.within)

  -- a fault of a text, and a test that isn't passed, are told of no file that holds a checked schema
  no_fails : (s : Schema) (fault : SchemaFault) → HoldsChecked bytes s → IsUnchecked bytes (Fails fault) → ⊥
  no_fails s fault a b =
      let trees : a.0 ≡ (b.0).0 = only.one_text bytes a.0 (b.0).0 (a.1).is_schema ((b.0).1).is_schema in
      b.1 (only.no_test (b.0).0 s fault (subst (λ ds. SchemaBuilds ds (Ok s)) trees a.2) (b.0).2)

  no_text : (trees : List DefinitionTree) (fault : SchemaTextFault) → HoldsDefinitions bytes trees → IsUnchecked bytes (NoSchemaText fault) → ⊥
  no_text trees fault a b = only.no_text_fault bytes trees fault a.is_schema b.1

  pub not_both : (s : Schema) (refusal : SchemaRefusal) → HoldsWeighed bytes s → IsUnchecked bytes refusal → ⊥
  not_both s TooLarge a b = over b ((a.0).1).text
  not_both s NotText a b = b.1 (((a.0).1).text).utf8
  not_both s (NoSchemaText fault) a b = no_text (a.0).0 fault (a.0).1 b
  not_both s (Fails fault) a b = no_fails s fault a.0 b
  not_both s (Misuses fault) a b =
      let same : schema_data s ≡ schema_data (b.0).0 = one_data s (b.0).0 a.0 (b.0).1 in
      not_passed fault (first_directive_fault (schema_data (b.0).0)) (subst (λ d. first_directive_fault d ≡ None) same ((a.1).1).0) (b.0).2 b.1

  -- each stage behind a text has a text, and each behind a schema text has definitions
  same_text : (fault other : SchemaTextFault) → IsUnchecked bytes (NoSchemaText fault) → IsUnchecked bytes (NoSchemaText other) → fault ≡ other
  same_text fault other a b = only.one_text_fault bytes fault other a.1 b.1

  same_test : (fault other : SchemaFault) → IsUnchecked bytes (Fails fault) → IsUnchecked bytes (Fails other) → fault ≡ other
  same_test fault other a b =
      let trees : (a.0).0 ≡ (b.0).0 = only.one_text bytes (a.0).0 (b.0).0 ((a.0).1).is_schema ((b.0).1).is_schema in
      elim (only.one_test (b.0).0 fault other (subst (λ ds. SchemaBuilds ds (Err fault)) trees (a.0).2) (b.0).2) [
        | inl memory ↦ absurd (a.1 memory)
        | inr r ↦ elim r [
          | inl memory ↦ absurd (b.1 memory)
          | inr same ↦ same
        ]
      ]

  same_misuse : (fault other : DirectiveFault) → IsUnchecked bytes (Misuses fault) → IsUnchecked bytes (Misuses other) → fault ≡ other
  same_misuse fault other a b =
      let same : schema_data (a.0).0 ≡ schema_data (b.0).0 = one_data (a.0).0 (b.0).0 (a.0).1 (b.0).1 in
      same_directive fault other (first_directive_fault (schema_data (b.0).0)) (subst (λ d. IsFault fault (first_directive_fault d)) same (a.0).2) (b.0).2 a.1 b.1

  pub one_refusal : (one other : SchemaRefusal) → IsUnchecked bytes one → IsUnchecked bytes other → one ≡ other
  one_refusal TooLarge TooLarge a b = refl
  one_refusal TooLarge NotText a b = absurd (omega (arith, a, b.0))
  one_refusal TooLarge (NoSchemaText g) a b = absurd (over a b.0)
  one_refusal TooLarge (Fails g) a b = absurd (over a ((b.0).1).text)
  one_refusal TooLarge (Misuses g) a b = absurd (over a ((((b.0).1).1).text))
  one_refusal NotText TooLarge a b = absurd (omega (arith, b, a.0))
  one_refusal NotText NotText a b = refl
  one_refusal NotText (NoSchemaText g) a b = absurd (a.1 (b.0).utf8)
  one_refusal NotText (Fails g) a b = absurd (a.1 (((b.0).1).text).utf8)
  one_refusal NotText (Misuses g) a b = absurd (a.1 ((((b.0).1).1).text).utf8)
  one_refusal (NoSchemaText f) TooLarge a b = absurd (over b a.0)
  one_refusal (NoSchemaText f) NotText a b = absurd (b.1 (a.0).utf8)
  one_refusal (NoSchemaText f) (NoSchemaText g) a b = ap NoSchemaText (same_text f g a b)
  one_refusal (NoSchemaText f) (Fails g) a b = absurd (no_text (b.0).0 f (b.0).1 a)
  one_refusal (NoSchemaText f) (Misuses g) a b = absurd (no_text ((b.0).1).0 f ((b.0).1).1 a)
  one_refusal (Fails f) TooLarge a b = absurd (over b ((a.0).1).text)
  one_refusal (Fails f) NotText a b = absurd (b.1 (((a.0).1).text).utf8)
  one_refusal (Fails f) (NoSchemaText g) a b = absurd (no_text (a.0).0 g (a.0).1 b)
  one_refusal (Fails f) (Fails g) a b = ap Fails (same_test f g a b)
  one_refusal (Fails f) (Misuses g) a b = absurd (no_fails (b.0).0 f (b.0).1 a)
  one_refusal (Misuses f) TooLarge a b = absurd (over b ((((a.0).1).1).text))
  one_refusal (Misuses f) NotText a b = absurd (b.1 ((((a.0).1).1).text).utf8)
  one_refusal (Misuses f) (NoSchemaText g) a b = absurd (no_text ((a.0).1).0 g ((a.0).1).1 b)
  one_refusal (Misuses f) (Fails g) a b = absurd (no_fails (a.0).0 g (a.0).1 b)
  one_refusal (Misuses f) (Misuses g) a b = ap Misuses (same_misuse f g a b)
