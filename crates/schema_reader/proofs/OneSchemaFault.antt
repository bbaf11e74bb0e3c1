-- Each text is a schema text or has one fault, and not both.
use Rattle.std.proofs.Common.{ℕ, ◌≡◌, ◌⊎◌, inl, inr, Bool, false, List, [], ◌∷◌, Ok, Err, codes, refl, sym, ap, ◌∙◌, subst}
use Rattle.gql_base.specs.declared.lexical.token.Token.{Token}
use Rattle.gql_base.specs.declared.lexical.lexing.LexFault.{LexFault}
use Rattle.gql_base.specs.lexical.Faults.{HasFault}
use Rattle.gql_base.specs.lexical.Tokens.{Lexes}
use Rattle.gql_base.specs.ways.TextFaults.{HasTree}
use Rattle.gql_base.specs.ways.Symbols.{Symbols, symbols_from}
use Rattle.gql_base.specs.ways.Reading.{Stop, unexpected, too_deep, Reading, next}
use Rattle.gql_base.specs.ways.Grammar.{Repeated}
use Rattle.gql_base.specs.ways.FirstFaults.{level_limit, IsUnexpected, IsWritten}
use Rattle.gql_base.specs.ways.Sources.{offset_of}
use Rattle.gql_base.proofs.LexicalLaws.DirectiveUses.{used_once, used_or_not}
use Rattle.gql_base.proofs.LexicalLaws.OneDivision.{lexes_once, lexes_or_has_fault, no_fault, one_fault}
use Rattle.gql_base.proofs.LexicalLaws.TextFaults.{no_memory_fault}
use Rattle.gql_base.proofs.WayLaws.LevelLaws.{is_unexpected, is_too_deep, is_written}
use Rattle.gql_base.proofs.WayLaws.DeterminedNestings.{Determined}
use Rattle.gql_base.proofs.WayLaws.RepeatingLaws.{repeated_ends}
use Rattle.gql_base.proofs.WayLaws.FirstPlace.{one_unexpected, unexpected_or_too_deep, one_too_deep, written_or_unexpected, written_or_too_deep}
use Rattle.gql_base.proofs.WayLaws.FaultPlaces.{same_offset, unexpected_place, too_deep_place}
use Rattle.gql_base.proofs.WayLaws.OneTextFault.{is_lexical_fault}
use Rattle.schema_reader.specs.declared.schema_text.SchemaTextFault.{SchemaTextFault}
use Rattle.schema_reader.specs.declared.schema_text.SchemaTextFault.TheVariants.{Lex, Unexpected, Extension, TooDeep, Memory}
use Rattle.schema_reader.specs.Schemas.{DefinitionTree, IsDefinition, IsSchema}
use Rattle.schema_reader.specs.SchemaReading.{begins_definition, definition_at, definitions_at}
use Rattle.schema_reader.specs.SchemaAnswers.{LetsFloats, HasSchema, BeginsExtension, ExtendsAt, IsFaultAmong, HasFaultAmong, IsFaultIf, HasSchemaFault}
use Rattle.schema_reader.proofs.DefinitionLaws.{definitions_family}
use Rattle.schema_reader.proofs.RepeatedParts.{definitions_repeat}
use Rattle.schema_reader.proofs.SchemaLevels.{determined}
use Rattle.schema_reader.proofs.LabelledDefinitions.{schema_labelled}
use Rattle.schema_reader.proofs.SchemaSteps.{written_schema, unexpected_schema, too_deep_schema, none_unexpected, extension_unexpected, no_extension, extends_there}

-- a fault of a text in which floats may stand or may not
abbrev HasFaultIf : Bool → List ℕ → SchemaTextFault → Type 0
HasFaultIf floats text fault = IsFaultIf floats text fault × (fault ≡ Memory → ⊥)

schema_levels : Determined IsSchema
schema_levels = determined schema_labelled

-- not both

no_fault_among : (text : List ℕ) (tokens : List Token) (trees : List DefinitionTree) (fault : SchemaTextFault) → IsWritten IsSchema level_limit (symbols_from text tokens 0) trees [] → IsFaultAmong text tokens fault → (fault ≡ Memory → ⊥) → ⊥
no_fault_among text tokens trees (Lex fault) is bad m = bad
no_fault_among text tokens trees (Unexpected at) is bad m = written_or_unexpected level_limit _ trees _ is bad.2
no_fault_among text tokens trees (Extension at) is bad m = written_or_unexpected level_limit _ trees _ is (extension_unexpected level_limit _ _ bad.2)
no_fault_among text tokens trees (TooDeep at) is bad m = written_or_too_deep schema_levels level_limit _ trees _ is bad.2
no_fault_among text tokens trees Memory is bad m = m refl

-- a fault is lexical or among the tokens
sorted : (floats : Bool) (text : List ℕ) (fault : SchemaTextFault) → HasFaultIf floats text fault → ((f : LexFault) × (fault ≡ Lex f) × HasFault floats text f) ⊎ HasFaultAmong floats text fault
sorted floats text (Lex fault) is = inl (fault, refl, is_lexical_fault floats text fault is.0.0 is.0.1)
sorted floats text (Unexpected at) is = inr is.0
sorted floats text (Extension at) is = inr is.0
sorted floats text (TooDeep at) is = inr is.0
sorted floats text Memory is = absurd (is.1 refl)

no_fault_if : (floats : Bool) (text : List ℕ) (trees : List DefinitionTree) (fault : SchemaTextFault) → HasTree floats IsSchema text trees → HasFaultIf floats text fault → ⊥
no_fault_if floats text trees fault is bad = elim (sorted floats text fault bad) [
  | inl f ↦ no_fault floats text is.0 f.0 is.1 f.2
  | inr among ↦ no_fault_among text is.0 trees fault is.2 (subst (λ ts. IsFaultAmong text ts fault) (lexes_once floats text among.0 is.0 among.1 is.1) among.2) bad.1
]

-- one fault

-- at one place there is an extension or another unexpected token
not_both_kinds : (text : List ℕ) (tokens : List Token) (place other : ℕ) → IsUnexpected IsSchema level_limit (symbols_from text tokens 0) (symbols_from text tokens place) → (ExtendsAt text tokens place → ⊥) → ExtendsAt text tokens other → ⊥
not_both_kinds text tokens place other u never x = never (subst (BeginsExtension level_limit (symbols_from text tokens 0)) (one_unexpected level_limit _ _ _ (extension_unexpected level_limit _ _ x) u) x)

one_among : (text : List ℕ) (tokens : List Token) (fault other : SchemaTextFault) → IsFaultAmong text tokens fault → IsFaultAmong text tokens other → (fault ≡ Memory → ⊥) → (other ≡ Memory → ⊥) → fault ≡ other
one_among text tokens (Lex fault) other is it a b = absurd is
one_among text tokens Memory other is it a b = absurd (a refl)
one_among text tokens (Unexpected at) (Lex fault) is it a b = absurd it
one_among text tokens (Unexpected at) (Unexpected place) is it a b = ap Unexpected (is.1 ∙ (same_offset text tokens is.0 it.0 (one_unexpected level_limit _ _ _ is.2 it.2) ∙ sym it.1))
one_among text tokens (Unexpected at) (Extension place) is it a b = absurd (not_both_kinds text tokens is.0 it.0 is.2 is.3 it.2)
one_among text tokens (Unexpected at) (TooDeep place) is it a b = absurd (unexpected_or_too_deep schema_levels level_limit _ _ _ is.2 it.2)
one_among text tokens (Unexpected at) Memory is it a b = absurd (b refl)
one_among text tokens (Extension at) (Lex fault) is it a b = absurd it
one_among text tokens (Extension at) (Unexpected place) is it a b = absurd (not_both_kinds text tokens it.0 is.0 it.2 it.3 is.2)
one_among text tokens (Extension at) (Extension place) is it a b = ap Extension (is.1 ∙ (same_offset text tokens is.0 it.0 (one_unexpected level_limit _ _ _ (extension_unexpected level_limit _ _ is.2) (extension_unexpected level_limit _ _ it.2)) ∙ sym it.1))
one_among text tokens (Extension at) (TooDeep place) is it a b = absurd (unexpected_or_too_deep schema_levels level_limit _ _ _ (extension_unexpected level_limit _ _ is.2) it.2)
one_among text tokens (Extension at) Memory is it a b = absurd (b refl)
one_among text tokens (TooDeep at) (Lex fault) is it a b = absurd it
one_among text tokens (TooDeep at) (Unexpected place) is it a b = absurd (unexpected_or_too_deep schema_levels level_limit _ _ _ it.2 is.2)
one_among text tokens (TooDeep at) (Extension place) is it a b = absurd (unexpected_or_too_deep schema_levels level_limit _ _ _ (extension_unexpected level_limit _ _ it.2) is.2)
one_among text tokens (TooDeep at) (TooDeep place) is it a b = ap TooDeep (is.1 ∙ (same_offset text tokens is.0 it.0 (one_too_deep schema_levels level_limit _ _ _ is.2 it.2) ∙ sym it.1))
one_among text tokens (TooDeep at) Memory is it a b = absurd (b refl)

one_fault_if : (floats : Bool) (text : List ℕ) (fault other : SchemaTextFault) → HasFaultIf floats text fault → HasFaultIf floats text other → fault ≡ other
one_fault_if floats text fault other is it = elim (sorted floats text fault is) [
  | inl f ↦ elim (sorted floats text other it) [
    | inl g ↦ f.1 ∙ (ap Lex (one_fault floats text f.0 g.0 f.2 g.2) ∙ sym g.1)
    | inr g ↦ absurd (no_fault floats text g.0 f.0 g.1 f.2)
  ]
  | inr f ↦ elim (sorted floats text other it) [
    | inl g ↦ absurd (no_fault floats text f.0 g.0 f.1 g.2)
    | inr g ↦ one_among text f.0 fault other f.2 (subst (λ ts. IsFaultAmong text ts other) (lexes_once floats text g.0 f.0 g.1 f.1) g.2) is.1 it.1
  ]
]

-- a schema text or a fault

abbrev SchemaOrFault : Bool → List ℕ → Type 0
SchemaOrFault floats text = ((trees : List DefinitionTree) × HasTree floats IsSchema text trees) ⊎ ((fault : SchemaTextFault) × HasFaultIf floats text fault)

-- definitions up to the end, or up to `extend`
after_definitions : (floats : Bool) (text : List ℕ) (tokens : List Token) → Lexes floats text tokens → (trees : List DefinitionTree) (rest : Symbols) → IsWritten (Repeated (IsDefinition 0)) level_limit (symbols_from text tokens 0) trees rest → begins_definition (next rest) ≡ false → SchemaOrFault floats text
after_definitions floats text tokens l (t ∷ ts) [] is e = inl (t ∷ ts, (tokens, l, written_schema level_limit (symbols_from text tokens 0) t ts [] is))
after_definitions floats text tokens l [] [] is e =
    let p = unexpected_place level_limit text tokens 0 [] (none_unexpected level_limit (symbols_from text tokens 0) is) in
    inr (Unexpected (offset_of text tokens p.0), ((tokens, l, (p.0, refl, p.1, λ x. nothing_extends text tokens p.0 is p.1 x)), λ m. cc))
  where
    nothing_extends : (text : List ℕ) (tokens : List Token) (place : ℕ) → IsWritten (Repeated (IsDefinition 0)) level_limit (symbols_from text tokens 0) [] [] → IsUnexpected IsSchema level_limit (symbols_from text tokens 0) (symbols_from text tokens place) → ExtendsAt text tokens place → ⊥
    nothing_extends text tokens place is u x = let none : symbols_from text tokens place ≡ [] = one_unexpected level_limit _ _ _ u (none_unexpected level_limit (symbols_from text tokens 0) is) in let e = sym x.extends.2 ∙ none in cc
after_definitions floats text tokens l trees (w ∷ rest) is e =
    let x : BeginsExtension level_limit (symbols_from text tokens 0) (w ∷ rest) = record { trees = trees; before = is; extends = extends_there (w ∷ rest) refl e } in
    let u = extension_unexpected level_limit (symbols_from text tokens 0) (w ∷ rest) x in
    let p = unexpected_place level_limit text tokens 0 (w ∷ rest) u in
    inr (Extension (offset_of text tokens p.0), ((tokens, l, (p.0, refl, subst (BeginsExtension level_limit (symbols_from text tokens 0)) (one_unexpected level_limit _ _ _ u p.1) x)), λ m. cc))

where_stopped : (floats : Bool) (text : List ℕ) (tokens : List Token) → Lexes floats text tokens → (stop : Stop) (rest : Symbols) → definitions_at level_limit (symbols_from text tokens 0) ≡ Err (stop, rest) → (fault : SchemaTextFault) × HasFaultIf floats text fault
where_stopped floats text tokens l unexpected rest e =
    let p = unexpected_place level_limit text tokens 0 rest (unexpected_schema level_limit (symbols_from text tokens 0) rest (is_unexpected level_limit definitions_family (symbols_from text tokens 0) rest e)) in
    (Unexpected (offset_of text tokens p.0), ((tokens, l, (p.0, refl, p.1, no_extension level_limit (symbols_from text tokens 0) (symbols_from text tokens p.0) (unexpected, rest) e)), λ m. cc))
where_stopped floats text tokens l too_deep rest e =
    let p = too_deep_place level_limit text tokens 0 rest (too_deep_schema level_limit (symbols_from text tokens 0) rest (is_too_deep level_limit definitions_family (symbols_from text tokens 0) rest e)) in
    (TooDeep (offset_of text tokens p.0), ((tokens, l, (p.0, refl, p.1)), λ m. cc))

by_reading : (floats : Bool) (text : List ℕ) (tokens : List Token) → Lexes floats text tokens → (o : Reading (List DefinitionTree)) → definitions_at level_limit (symbols_from text tokens 0) ≡ o → SchemaOrFault floats text
unfolding definitions_at
by_reading floats text tokens l (Ok x) e = after_definitions floats text tokens l x.0 x.1 (is_written level_limit definitions_family (symbols_from text tokens 0) x.0 x.1 e) (repeated_ends begins_definition (definition_at level_limit) (definitions_repeat level_limit) (symbols_from text tokens 0) x e)
by_reading floats text tokens l (Err stop) e = inr (where_stopped floats text tokens l stop.0 stop.1 e)

schema_or_fault_if : (floats : Bool) (text : List ℕ) → SchemaOrFault floats text
schema_or_fault_if floats text = elim (lexes_or_has_fault floats text) [
  | inl l ↦ by_reading floats text l.0 l.1 (definitions_at level_limit (symbols_from text l.0 0)) refl
  | inr bad ↦ inr (Lex bad.0, ((inl bad.1, λ e. no_memory_fault floats text (subst (HasFault floats text) e bad.1)), λ is. cc))
]

-- floats may stand in both or in neither

lets_once : (text : List ℕ) (floats other : Bool) → LetsFloats text floats → LetsFloats text other → floats ≡ other
lets_once = used_once (codes "floats")

pub no_schema_fault : (text : List ℕ) (trees : List DefinitionTree) (fault : SchemaTextFault) → HasSchema text trees → HasSchemaFault text fault → ⊥
no_schema_fault text trees fault is bad =
    let why = bad.0 in
    no_fault_if is.0 text trees fault is.2 (subst (λ b. IsFaultIf b text fault) (lets_once text why.0 is.0 why.1 is.1) why.2, bad.1)

pub one_schema_fault : (text : List ℕ) (fault other : SchemaTextFault) → HasSchemaFault text fault → HasSchemaFault text other → fault ≡ other
one_schema_fault text fault other is it =
    let one = is.0 in let two = it.0 in
    one_fault_if one.0 text fault other (one.2, is.1) (subst (λ b. IsFaultIf b text other) (lets_once text two.0 one.0 two.1 one.1) two.2, it.1)

pub schema_or_fault : (text : List ℕ) → ((trees : List DefinitionTree) × HasSchema text trees) ⊎ ((fault : SchemaTextFault) × HasSchemaFault text fault)
schema_or_fault text =
    let lets = used_or_not (codes "floats") text in
    elim (schema_or_fault_if lets.0 text) [
      | inl is ↦ inl (is.0, (lets.0, lets.1, is.1))
      | inr bad ↦ inr (bad.0, ((lets.0, lets.1, bad.1.0), bad.1.1))
    ]
