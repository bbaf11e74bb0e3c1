-- Definitions one after the other, and what follows for documents.
use Rattle.std.proofs.Common.{ℕ, ◌≡◌, ◌≤◌, ◌<◌, List, [], ◌∷◌, ◌++◌, length, map, Ok, refl, sym, ap, ◌∙◌, subst, arith}
use Rattle.gql_base.specs.declared.lexical.token.Token.{Token}
use Rattle.gql_base.specs.declared.ways.source.Source.{Source}
use Rattle.gql_base.specs.declared.ways.source.Halt.{Halt}
use Rattle.gql_base.specs.ways.Symbols.{Symbols}
use Rattle.gql_base.specs.ways.Reading.{listed, repeated, is_there}
use Rattle.gql_base.specs.ways.FirstFaults.{level_limit}
use Rattle.gql_base.specs.ways.Sources.{ahead, Halts, offset_of}
use Rattle.gql_base.proofs.WayLaws.Cursor.{none_ahead}
use Rattle.gql_base.proofs.WayLaws.Loops.{joined, loop_begins, first_halts}
use Rattle.document_reader.specs.declared.trees.Definition.{Definition}
use Rattle.document_reader.specs.Documents.{DefinitionTree}
use Rattle.document_reader.specs.DocumentReading.{definition_at, document_at}
use Rattle.document_reader.specs.Trees.{definition_tree}
use Rattle.document_reader.specs.Places.{BeginsAt, StandsFrom, AllStandFrom}
use Rattle.document_reader.proofs.DocumentLaws.{definition_law}

pub stands : (s : Source) (from to : ℕ) (d : Definition) → definition_at level_limit (ahead s from) ≡ Ok (definition_tree d, ahead s to) → from < to → to ≤ length s.tokens.now → BeginsAt (offset_of s.text.now s.tokens.now from) d → StandsFrom s.text.now s.tokens.now from to d
stands s from to d e onward short begins =
    let t = (definition_law level_limit level_limit 0 level_limit (omega arith) (omega arith)).took (ahead s from) (definition_tree d, ahead s to) e in
    record { front = t.front; cut = t.cut; onward = onward; short = short; within = t.within; written = t.written; begins = begins }

pub stands_alone : (text : List ℕ) (tokens : List Token) (from to : ℕ) (d : Definition) (all : List Definition) → StandsFrom text tokens from to d → all ≡ d ∷ [] → AllStandFrom text tokens from to all
unfolding AllStandFrom
stands_alone text tokens from to d all is e = subst (AllStandFrom text tokens from to) (sym e) (to, is, refl)

joins : (text : List ℕ) (tokens : List Token) (from at to : ℕ) (all : List Definition) (d : Definition) → AllStandFrom text tokens from at all → StandsFrom text tokens at to d → AllStandFrom text tokens from to (all ++ (d ∷ []))
unfolding AllStandFrom
joins text tokens from at to [] d are is = (to, subst (λ k. StandsFrom text tokens k to d) (sym are) is, refl)
joins text tokens from at to (x ∷ all) d are is = (are.0, are.1, joins text tokens are.0 at to all d are.2 is)

pub stands_after : (text : List ℕ) (tokens : List Token) (from at to : ℕ) (all pushed : List Definition) (d : Definition) → AllStandFrom text tokens from at all → StandsFrom text tokens at to d → pushed ≡ all ++ (d ∷ []) → AllStandFrom text tokens from to pushed
stands_after text tokens from at to all pushed d are is e = subst (AllStandFrom text tokens from to) (sym e) (joins text tokens from at to all d are is)

-- the loop over definitions

pub document_begins : (s : Source) (all : List Definition) (d : Definition) (end : ℕ) → definition_at level_limit (ahead s 0) ≡ Ok (definition_tree d, ahead s end) → all ≡ d ∷ [] → joined (map definition_tree all) (repeated is_there (definition_at level_limit) (ahead s end)) ≡ document_at level_limit (ahead s 0)
unfolding document_at
document_begins s all d end e is = loop_begins definition_tree is_there (definition_at level_limit) all d (ahead s 0) (ahead s end) e is

pub document_halts : (s : Source) (h : Halt) → Halts s h (definition_at level_limit (ahead s 0)) → Halts s h (document_at level_limit (ahead s 0))
unfolding document_at
document_halts s h e = first_halts listed (definition_at level_limit) (repeated is_there (definition_at level_limit)) (ahead s 0) s h e

pub whole_document : (s : Source) (trees : List DefinitionTree) → document_at level_limit (ahead s 0) ≡ Ok (trees, ahead s (length s.tokens.now)) → document_at level_limit (ahead s 0) ≡ Ok (trees, [])
whole_document s trees e = e ∙ ap (λ (l : Symbols). Ok (trees, l)) (none_ahead s (length s.tokens.now) (omega arith))
