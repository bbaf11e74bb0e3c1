-- Each text is a document or has one fault, and not both.
use Rattle.std.proofs.Common.{ℕ, ◌≡◌, ◌⊎◌, inl, inr, List, [], Ok, refl, sym, ap, ◌∙◌, subst, arith, Bool}
use Rattle.gql_base.proofs.WayLaws.ReadingLaws.{no_symbol}
use Rattle.gql_base.specs.ways.Symbols.{Symbols}
use Rattle.gql_base.specs.ways.Reading.{is_there}
use Rattle.gql_base.specs.ways.FirstFaults.{level_limit}
use Rattle.gql_base.specs.ways.TextFaults.{TextFault, lexical_fault, unexpected_at, too_deep_at, no_memory, HasTextFault}
use Rattle.gql_base.proofs.WayLaws.RepeatingLaws.{repeats, one_or_more_ends}
use Rattle.gql_base.proofs.WayLaws.DeterminedNestings.{by_counting}
use Rattle.gql_base.proofs.WayLaws.OneTextFault.{tree_or_fault, no_text_fault, one_text_fault}
use Rattle.document_reader.specs.declared.document.DocFault.{DocFault}
use Rattle.document_reader.specs.declared.document.DocFault.TheVariants.{Lex, Unexpected, TooDeep, Memory}
use Rattle.document_reader.specs.Documents.{DefinitionTree, IsDocument}
use Rattle.document_reader.specs.DocumentReading.{definition_at, document_at}
use Rattle.document_reader.specs.DocumentAnswers.{told_of_document, HasDocument, HasDocumentFault}
use Rattle.document_reader.proofs.DocumentLaws.{definition_law, heads_definition, document_family}
use Rattle.document_reader.proofs.CountedDocuments.{document_counted}

-- the fault that tells this
abbrev document_fault : TextFault → DocFault
document_fault (lexical_fault fault) = Lex fault
document_fault (unexpected_at offset) = Unexpected offset
document_fault (too_deep_at offset) = TooDeep offset
document_fault no_memory = Memory

back_told : (told : TextFault) → told_of_document (document_fault told) ≡ told
back_told (lexical_fault fault) = refl
back_told (unexpected_at offset) = refl
back_told (too_deep_at offset) = refl
back_told no_memory = refl

told_back : (fault : DocFault) → document_fault (told_of_document fault) ≡ fault
told_back (Lex fault) = refl
told_back (Unexpected at) = refl
told_back (TooDeep at) = refl
told_back Memory = refl

-- Reading a document leaves nothing.
nothing_left : (n : ℕ) (ws : Symbols) (x : List DefinitionTree × Symbols) → document_at n ws ≡ Ok x → x.1 ≡ []
unfolding document_at
nothing_left n ws x e = no_symbol x.1 (one_or_more_ends is_there (definition_at n) (repeats is_there (definition_law n n 0 n (omega arith) (omega arith)) (heads_definition 0) refl) ws x e)

pub document_or_fault : (floats : Bool) (text : List ℕ) → ((trees : List DefinitionTree) × HasDocument floats text trees) ⊎ ((fault : DocFault) × HasDocumentFault floats text fault)
document_or_fault floats text = elim (tree_or_fault floats document_family (nothing_left level_limit) text) [
  | inl is ↦ inl is
  | inr bad ↦ inr (document_fault bad.0, subst (HasTextFault floats IsDocument text) (sym (back_told bad.0)) bad.1)
]

pub no_document_fault : (floats : Bool) (text : List ℕ) (trees : List DefinitionTree) (fault : DocFault) → HasDocument floats text trees → HasDocumentFault floats text fault → ⊥
no_document_fault floats text trees fault is bad = no_text_fault floats (by_counting document_counted) text trees (told_of_document fault) is bad

pub one_document_fault : (floats : Bool) (text : List ℕ) (fault other : DocFault) → HasDocumentFault floats text fault → HasDocumentFault floats text other → fault ≡ other
one_document_fault floats text fault other is it = sym (told_back fault) ∙ (ap document_fault (one_text_fault floats (by_counting document_counted) text (told_of_document fault) (told_of_document other) is it) ∙ told_back other)
