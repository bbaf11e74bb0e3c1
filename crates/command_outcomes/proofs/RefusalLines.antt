-- The texts of refusals are one line.
use Rattle.std.proofs.Common.{◌≡◌, ◌∙◌, refl, sym, ℕ, List, ◌∷◌, ◌++◌, not, true, codes}
use Rattle.std.specs.Char.{is_ascii_control}
use Rattle.std.specs.Fmt.{decimal}
use Rattle.std.specs.List.{list_all}
use Rattle.std.proofs.lemmas.Bool.{and_parts}
use Rattle.std.proofs.lemmas.List.Folds.{list_all-append}
use Rattle.gql_base.specs.declared.lexical.lexing.LexFault.{LexFault}
use Rattle.gql_base.specs.printing.OneLine.{shown_in_line, is_one_line}
use Rattle.gql_base.proofs.PrintingLaws.OneLine.{shown_is_one_line, lines_joined}
use Rattle.schema_reader.specs.declared.schema_text.SchemaTextFault.{SchemaTextFault}
use Rattle.schema_reader.specs.declared.schema_text.SchemaTextFault.TheVariants as text
use Rattle.schema_model.specs.declared.fault.SchemaFault.{SchemaFault}
use Rattle.schema_model.specs.declared.fault.SchemaFault.TheVariants as schema
use Rattle.cost_directives.specs.declared.fault.DirectiveFault.{DirectiveFault}
use Rattle.cost_directives.specs.declared.fault.DirectiveFault.TheVariants as directive
use Rattle.document_reader.specs.declared.document.DocFault.TheVariants as document
use Rattle.local_introspection.specs.PassedOn.{Refusal, Document, placed, naming, lexical_text, refusal_text}
use Rattle.command_outcomes.specs.declared.checked.SchemaRefusal.{SchemaRefusal}
use Rattle.command_outcomes.specs.declared.checked.SchemaRefusal.TheVariants.{TooLarge, NotText, NoSchemaText, Fails, Misuses}
use Rattle.command_outcomes.specs.Texts.{too_large_text, not_text_text}
use Rattle.command_outcomes.specs.SchemaTexts.{schema_text_text, schema_fault_text, weight_fault_text, directive_fault_text, schema_refusal_text}

abbrev pub IsLine : List ℕ → Type 0
IsLine told = is_one_line told ≡ true

-- what stands at the end of a line is one
pub back_of : (front back : List ℕ) → IsLine (front ++ back) → IsLine back
unfolding is_one_line
back_of front back p =
    let plain = λ (c : ℕ). not (is_ascii_control c) in
    (and_parts (list_all plain front) (list_all plain back) (sym (list_all-append plain front back) ∙ p)).1

spaced_line : (back : List ℕ) → IsLine back → IsLine (32 ∷ back)
unfolding is_one_line
spaced_line back p = p

-- a text, a space, and a number
pub with_number : (front : List ℕ) (n : ℕ) → IsLine (32 ∷ decimal n) → IsLine front → IsLine (placed front n)
with_number front n number p = lines_joined front (32 ∷ decimal n) p number

pub naming_line : (front name : List ℕ) → IsLine front → IsLine (naming front name)
naming_line front name p = lines_joined front (32 ∷ shown_in_line name) p (spaced_line (shown_in_line name) (shown_is_one_line name))

pub too_large_line : (name : List ℕ) → IsLine (too_large_text name)
unfolding is_one_line
too_large_line name = naming_line (codes "input 1 TooLarge") name refl

pub not_text_line : (name : List ℕ) → IsLine (not_text_text name)
unfolding is_one_line
not_text_line name = naming_line (codes "input 2 NotText") name refl

-- The text of why a request is refused is one line, and so are the texts by which files are refused.
module _ (refusals : (refusal : Refusal) → IsLine (refusal_text refusal)) where
  -- a number behind a space, as the refusal of a document tells one
  number_line : (n : ℕ) → IsLine (32 ∷ decimal n)
  number_line n = back_of (codes "document 2 Unexpected") (32 ∷ decimal n) (refusals (Document (document.Unexpected n)))

  lexical_line : (fault : LexFault) → IsLine (lexical_text fault)
  lexical_line fault = back_of (codes "document ") (lexical_text fault) (refusals (Document (document.Lex fault)))

  placed_line : (front : List ℕ) (at : ℕ) → IsLine front → IsLine (placed front at)
  placed_line front at p = with_number front at (number_line at) p

  text_line : (fault : SchemaTextFault) → IsLine (schema_text_text fault)
  unfolding is_one_line
  text_line (text.Lex fault) = lines_joined (codes "text ") (lexical_text fault) refl (lexical_line fault)
  text_line (text.Unexpected at) = placed_line (codes "text 2 Unexpected") at refl
  text_line (text.Extension at) = placed_line (codes "text 3 Extension") at refl
  text_line (text.TooDeep at) = placed_line (codes "text 4 TooDeep") at refl
  text_line text.Memory = refl

  schema_line : (fault : SchemaFault) → IsLine (schema_fault_text fault)
  unfolding is_one_line
  schema_line (schema.TooMany counted) = placed_line (codes "schema 1 TooMany") counted refl
  schema_line (schema.Repeated place) = naming_line (codes "schema 2 Repeated") place refl
  schema_line (schema.Reserved place) = naming_line (codes "schema 3 Reserved") place refl
  schema_line (schema.UnknownType name) = naming_line (codes "schema 4 UnknownType") name refl
  schema_line schema.NoQuery = refl
  schema_line (schema.WrongKind place) = naming_line (codes "schema 6 WrongKind") place refl
  schema_line (schema.FloatScalar place) = naming_line (codes "schema 7 FloatScalar") place refl
  schema_line (schema.NestedList place) = naming_line (codes "schema 8 NestedList") place refl
  schema_line (schema.EmptyType name) = naming_line (codes "schema 9 EmptyType") name refl
  schema_line (schema.NotImplemented place) = naming_line (codes "schema 10 NotImplemented") place refl
  schema_line (schema.BadDirective place) = naming_line (codes "schema 11 BadDirective") place refl
  schema_line (schema.BadDefault place) = naming_line (codes "schema 12 BadDefault") place refl
  schema_line schema.Memory = refl

  directive_line : (fault : DirectiveFault) → IsLine (directive_fault_text fault)
  unfolding is_one_line
  directive_line (directive.Weight place fault) = naming_line (naming (codes "directive 1 Weight") place) (weight_fault_text fault) (naming_line (codes "directive 1 Weight") place refl)
  directive_line (directive.NotAList place) = naming_line (codes "directive 2 NotAList") place refl
  directive_line (directive.Dotted place) = naming_line (codes "directive 3 Dotted") place refl
  directive_line (directive.SlicingUnknown place name) = naming_line (naming (codes "directive 4 SlicingUnknown") place) name (naming_line (codes "directive 4 SlicingUnknown") place refl)
  directive_line (directive.SlicingNotInt place name) = naming_line (naming (codes "directive 5 SlicingNotInt") place) name (naming_line (codes "directive 5 SlicingNotInt") place refl)
  directive_line (directive.SizedOnList place) = naming_line (codes "directive 6 SizedOnList") place refl
  directive_line (directive.SizedUnknown place name) = naming_line (naming (codes "directive 7 SizedUnknown") place) name (naming_line (codes "directive 7 SizedUnknown") place refl)
  directive_line (directive.NegativeSize place) = naming_line (codes "directive 8 NegativeSize") place refl
  directive_line (directive.Disagree place) = naming_line (codes "directive 9 Disagree") place refl
  directive_line directive.Memory = refl

  pub schema_refusal_line : (name : List ℕ) (refusal : SchemaRefusal) → IsLine (schema_refusal_text name refusal)
  schema_refusal_line name TooLarge = too_large_line name
  schema_refusal_line name NotText = not_text_line name
  schema_refusal_line name (NoSchemaText fault) = text_line fault
  schema_refusal_line name (Fails fault) = schema_line fault
  schema_refusal_line name (Misuses fault) = directive_line fault
