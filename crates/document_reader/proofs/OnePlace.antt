-- The operations of documents that are one text stand at the same offsets.
use Rattle.std.proofs.Common.{ℕ, ◌≡◌, ◌≤◌, List, [], ◌∷◌, length, map, Ok, refl, sym, ap, ◌∙◌, subst, arith, Bool}
use Rattle.std.specs.Prelude.{drop}
use Rattle.std.proofs.lemmas.List.{length-drop, length-map}
use Rattle.gql_base.specs.declared.lexical.token.Token.{Token}
use Rattle.gql_base.specs.ways.Symbols.{Symbols, symbol_of, symbols_from}
use Rattle.gql_base.specs.ways.Reading.{never}
use Rattle.gql_base.specs.ways.FirstFaults.{level_limit}
use Rattle.gql_base.specs.ways.Sources.{offset_of}
use Rattle.gql_base.proofs.LexicalLaws.OneDivision.{lexes_once}
use Rattle.gql_base.proofs.WayLaws.ReadingLaws.{ok_same}
use Rattle.gql_base.proofs.WayLaws.LevelLaws.{Family, is_read}
use Rattle.document_reader.specs.declared.trees.Definition.{Definition}
use Rattle.document_reader.specs.declared.trees.Definition.TheVariants.{Op, Frag}
use Rattle.document_reader.specs.declared.trees.Document.{Document}
use Rattle.document_reader.specs.Documents.{DefinitionTree, IsDefinition}
use Rattle.document_reader.specs.DocumentReading.{definition_at}
use Rattle.document_reader.specs.Trees.{definition_tree}
use Rattle.document_reader.specs.Places.{BeginsAt, operation_offset, StandsFrom, AllStandFrom}
use Rattle.document_reader.specs.DocumentAnswers.{IsDocumentOf}
use Rattle.document_reader.proofs.DocumentLaws.{definition_law}

definition_family : Family (IsDefinition 0) never definition_at
definition_family = record { law = λ n more le. definition_law n more 0 n le (omega arith); at_end = refl }

definition_read : (text : List ℕ) (tokens : List Token) (from to : ℕ) (d : Definition) → StandsFrom text tokens from to d → definition_at level_limit (symbols_from text tokens from) ≡ Ok (definition_tree d, symbols_from text tokens to)
definition_read text tokens from to d is = is_read level_limit definition_family (definition_tree d) is.front (symbols_from text tokens from) (symbols_from text tokens to) is.written is.within is.cut refl

-- as many symbols as tokens are left
symbols_left : (text : List ℕ) (tokens : List Token) (p q : ℕ) → p ≤ length tokens → q ≤ length tokens → symbols_from text tokens p ≡ symbols_from text tokens q → p ≡ q
unfolding symbols_from
symbols_left text tokens p q a b e = omega (arith, a, b, length-drop p tokens, length-drop q tokens, sym (length-map (drop p tokens) (symbol_of text)) ∙ (ap length e ∙ length-map (drop q tokens) (symbol_of text)))

-- definitions that begin with one token end before one token
one_end : (text : List ℕ) (tokens : List Token) (from to end : ℕ) (d e : Definition) → StandsFrom text tokens from to d → StandsFrom text tokens from end e → to ≡ end
one_end text tokens from to end d e is it =
    let same = ok_same (definition_tree d, symbols_from text tokens to) (definition_tree e, symbols_from text tokens end) (sym (definition_read text tokens from to d is) ∙ definition_read text tokens from end e it) in
    symbols_left text tokens to end is.short it.short (ap (λ (x : DefinitionTree × Symbols). x.1) same)

same_place : (offset : ℕ) (d e : Definition) → BeginsAt offset d → BeginsAt offset e → definition_tree d ≡ definition_tree e → operation_offset d ≡ operation_offset e
same_place offset (Op o) (Op p) is it same = cc (is, it)
same_place offset (Op o) (Frag f) is it same = cc
same_place offset (Frag f) (Op o) is it same = cc
same_place offset (Frag f) (Frag g) is it same = refl

one_place : (text : List ℕ) (tokens : List Token) (from to end : ℕ) (d e : Definition) → StandsFrom text tokens from to d → StandsFrom text tokens from end e → operation_offset d ≡ operation_offset e
one_place text tokens from to end d e is it =
    let same = ok_same (definition_tree d, symbols_from text tokens to) (definition_tree e, symbols_from text tokens end) (sym (definition_read text tokens from to d is) ∙ definition_read text tokens from end e it) in
    same_place (offset_of text tokens from) d e is.begins it.begins (ap (λ (x : DefinitionTree × Symbols). x.0) same)

places_of_all : (text : List ℕ) (tokens : List Token) (from : ℕ) (ds es : List Definition) → AllStandFrom text tokens from (length tokens) ds → AllStandFrom text tokens from (length tokens) es → map operation_offset ds ≡ map operation_offset es
unfolding AllStandFrom
places_of_all text tokens from [] [] are these = refl
places_of_all text tokens from [] (e ∷ es) are these = absurd (omega (arith, are, these.1.onward, these.1.short))
places_of_all text tokens from (d ∷ ds) [] are these = absurd (omega (arith, these, are.1.onward, are.1.short))
places_of_all text tokens from (d ∷ ds) (e ∷ es) are these =
    let end = one_end text tokens from are.0 these.0 d e are.1 these.1 in
    let rest : AllStandFrom text tokens are.0 (length tokens) es = subst (λ k. AllStandFrom text tokens k (length tokens) es) (sym end) these.2 in
    let first = one_place text tokens from are.0 these.0 d e are.1 these.1 in
    let others = places_of_all text tokens are.0 ds es are.2 rest in
    cc (first, others)

pub one_place_of : (floats : Bool) (text : List ℕ) (document other : Document) → IsDocumentOf floats text document → IsDocumentOf floats text other → map operation_offset document.definitions.items ≡ map operation_offset other.definitions.items
one_place_of floats text document other is are =
    let same = lexes_once floats text are.tokens is.tokens are.lexes is.lexes in
    places_of_all text is.tokens 0 document.definitions.items other.definitions.items is.among.places
    (subst (λ ts. AllStandFrom text ts 0 (length ts) other.definitions.items) same are.among.places)
