-- What follows for calls that read schema texts.
use Rattle.std.proofs.Common.{ℕ, ◌≡◌, Bool, true, false, length, map, List, [], ◌∷◌, Result, Ok, Err, refl, sym, ap, ◌∙◌, subst}
use Rattle.std.specs.Prelude.{codes, ◌==◌, IfOk, IfErr}
use Rattle.std.proofs.lemmas.Bool.{eqb-true}
use Rattle.std.proofs.lemmas.List.{nil_from_length}
use Rattle.gql_base.specs.declared.ways.source.Source.{Source}
use Rattle.gql_base.specs.declared.ways.source.Halt.{Halt}
use Rattle.gql_base.specs.declared.ways.source.Halt.TheVariants as halt
use Rattle.gql_base.specs.declared.lexical.token.Token.{Token}
use Rattle.gql_base.specs.declared.lexical.lexing.LexFault.{LexFault}
use Rattle.gql_base.specs.declared.lexical.lexing.LexFault.TheVariants as lexical
use Rattle.gql_base.specs.lexical.Tokens.{Lexes, IsFaultOf}
use Rattle.gql_base.specs.ways.Symbols.{Symbols, symbols_from}
use Rattle.gql_base.specs.ways.Reading.{unexpected, next, is_there}
use Rattle.gql_base.specs.ways.Grammar.{Repeated}
use Rattle.gql_base.specs.ways.FirstFaults.{level_limit, IsWritten}
use Rattle.gql_base.specs.ways.Sources.{ahead, Halts, offset_of}
use Rattle.gql_base.specs.ways.Halting.{fault_of_halt, fault_of_lexing}
use Rattle.gql_base.proofs.LexicalLaws.DirectiveUses.{used_once}
use Rattle.gql_base.proofs.WayLaws.ReadingLaws.{ok_same, no_symbol}
use Rattle.gql_base.proofs.WayLaws.LevelLaws.{is_unexpected, is_too_deep, is_written, is_read}
use Rattle.gql_base.proofs.WayLaws.Readings.{halts_for_memory}
use Rattle.schema_reader.specs.declared.schema_text.SchemaTextFault.{SchemaTextFault}
use Rattle.schema_reader.specs.declared.schema_text.SchemaTextFault.TheVariants as fault
use Rattle.schema_reader.specs.declared.trees.SchemaText.{SchemaText}
use Rattle.schema_reader.specs.declared.trees.SchemaDef.{SchemaDef}
use Rattle.schema_reader.specs.Trees.{definition_tree, schema_trees}
use Rattle.schema_reader.specs.Schemas.{DefinitionTree, IsDefinition, IsSchema}
use Rattle.schema_reader.specs.SchemaReading.{begins_definition, definitions_at}
use Rattle.schema_reader.specs.SchemaAnswers.{LetsFloats, HasSchema, IsFaultAmong, IsFaultIf, IsSchemaFault, schema_fault}
use Rattle.schema_reader.proofs.DefinitionLaws.{definitions_family}
use Rattle.schema_reader.proofs.SchemaSteps.{are_definitions, written_schema, unexpected_schema, too_deep_schema, none_unexpected, no_extension, extends_there}

-- the definitions that a call has read
before : (s : Source) (trees : List DefinitionTree) (end : ℕ) → definitions_at level_limit (ahead s 0) ≡ Ok (trees, ahead s end) → IsWritten (Repeated (IsDefinition 0)) level_limit (ahead s 0) trees (ahead s end)
before s trees end e = is_written level_limit definitions_family (ahead s 0) trees (ahead s end) e

-- whether there are definitions

pub no_trees : (b : Bool) (n : ℕ) (all : List SchemaDef) → n ≡ length all → b ≡ (n == 0) → b ≡ true → map definition_tree all ≡ []
no_trees b n all len is t = ap (map definition_tree) (nil_from_length all (sym len ∙ eqb-true n 0 (sym is ∙ t)))

pub some_trees : (b : Bool) (n : ℕ) (all : List SchemaDef) → n ≡ length all → b ≡ (n == 0) → b ≡ false → map definition_tree all ≡ [] → ⊥
some_trees b n [] len is f e = let none : true ≡ false = sym (is ∙ ap (λ n. n == 0) len) ∙ f in cc
some_trees b n (d ∷ all) len is f e = cc

-- up to the end

pub schema_found : (s : Source) (trees : List DefinitionTree) (end : ℕ) → definitions_at level_limit (ahead s 0) ≡ Ok (trees, ahead s end) → is_there (next (ahead s end)) ≡ false → (trees ≡ [] → ⊥) → IsWritten IsSchema level_limit (ahead s 0) trees []
schema_found s trees end e none some = by_trees trees (subst (IsWritten (Repeated (IsDefinition 0)) level_limit (ahead s 0) trees) (no_symbol (ahead s end) none) (before s trees end e)) some
  where
    by_trees : (trees : List DefinitionTree) → IsWritten (Repeated (IsDefinition 0)) level_limit (ahead s 0) trees [] → (trees ≡ [] → ⊥) → IsWritten IsSchema level_limit (ahead s 0) trees []
    by_trees [] is some = absurd (some refl)
    by_trees (t ∷ ts) is some = written_schema level_limit (ahead s 0) t ts [] is

pub nothing_found : (s : Source) (trees : List DefinitionTree) (end at : ℕ) → definitions_at level_limit (ahead s 0) ≡ Ok (trees, ahead s end) → is_there (next (ahead s end)) ≡ false → trees ≡ [] → at ≡ offset_of s.text.now s.tokens.now end → IsFaultAmong s.text.now s.tokens.now (fault.Unexpected at)
nothing_found s trees end at e none is offset =
    let empty : ahead s end ≡ [] = no_symbol (ahead s end) none in
    let u = none_unexpected level_limit (ahead s 0) (subst (IsWritten (Repeated (IsDefinition 0)) level_limit (ahead s 0) []) empty (subst (λ l. IsWritten (Repeated (IsDefinition 0)) level_limit (ahead s 0) l (ahead s end)) is (before s trees end e))) in
    (end, offset, rw empty u, λ x. let no = sym empty ∙ x.extends.2 in cc)

-- up to `extend`
pub extension_found : (s : Source) (trees : List DefinitionTree) (end at : ℕ) → definitions_at level_limit (ahead s 0) ≡ Ok (trees, ahead s end) → is_there (next (ahead s end)) ≡ true → begins_definition (next (ahead s end)) ≡ false → at ≡ offset_of s.text.now s.tokens.now end → IsFaultAmong s.text.now s.tokens.now (fault.Extension at)
extension_found s trees end at e there ends offset = (end, offset, record { trees = trees; before = before s trees end e; extends = extends_there (ahead s end) there ends })

-- where reading halts
pub halt_found : (s : Source) (h : Halt) (told : SchemaTextFault) → Halts s h (definitions_at level_limit (ahead s 0)) → told ≡ schema_fault (fault_of_halt s h) → IsFaultAmong s.text.now s.tokens.now told
halt_found s (halt.Unexpected at) told e is = subst (IsFaultAmong s.text.now s.tokens.now) (sym is) (at, refl, unexpected_schema level_limit (ahead s 0) (ahead s at) (is_unexpected level_limit definitions_family (ahead s 0) (ahead s at) e), no_extension level_limit (ahead s 0) (ahead s at) (unexpected, ahead s at) e)
halt_found s (halt.TooDeep at) told e is = subst (IsFaultAmong s.text.now s.tokens.now) (sym is) (at, refl, too_deep_schema level_limit (ahead s 0) (ahead s at) (is_too_deep level_limit definitions_family (ahead s 0) (ahead s at) e))
halt_found s halt.Memory told e is = subst (IsFaultAmong s.text.now s.tokens.now) (sym is) tt

-- a schema text is read as such

schema_read : (ws : Symbols) (trees : List DefinitionTree) → IsWritten IsSchema level_limit ws trees [] → definitions_at level_limit ws ≡ Ok (trees, [])
schema_read ws trees is = is_read level_limit definitions_family trees is.front ws [] (are_definitions trees is.front is.written) is.within is.cut refl

-- what is read of it, and what is left after that
abbrev Same : List DefinitionTree → List DefinitionTree → Symbols → Type 0
Same trees others rest = (others ≡ trees) × (rest ≡ [])

same_read : (ws : Symbols) (trees others : List DefinitionTree) (rest : Symbols) → IsWritten IsSchema level_limit ws trees [] → definitions_at level_limit ws ≡ Ok (others, rest) → Same trees others rest
same_read ws trees others rest is e = let p = ok_same (others, rest) (trees, []) (sym e ∙ schema_read ws trees is) in (ap (λ x. x.0) p, ap (λ x. x.1) p)

pub schema_same : (ws : Symbols) (trees others : List DefinitionTree) (rest : Symbols) → IsWritten IsSchema level_limit ws trees [] → definitions_at level_limit ws ≡ Ok (others, rest) → others ≡ trees
schema_same ws trees others rest is e = (same_read ws trees others rest is e).0

pub no_rest : (ws : Symbols) (trees others : List DefinitionTree) (rest : Symbols) → IsWritten IsSchema level_limit ws trees [] → definitions_at level_limit ws ≡ Ok (others, rest) → is_there (next rest) ≡ true → ⊥
no_rest ws trees others rest is e there = let none : false ≡ true = sym (ap (λ (l : Symbols). is_there (next l)) (same_read ws trees others rest is e).1) ∙ there in cc

pub some_definition : (ws : Symbols) (trees others : List DefinitionTree) (rest : Symbols) → IsWritten IsSchema level_limit ws trees [] → definitions_at level_limit ws ≡ Ok (others, rest) → others ≡ [] → ⊥
unfolding IsSchema
some_definition ws trees others rest is e none = let empty = sym is.written.1 ∙ (sym (schema_same ws trees others rest is e) ∙ none) in cc

pub memory_alone : (s : Source) (h : Halt) (told : SchemaTextFault) (trees : List DefinitionTree) → IsWritten IsSchema level_limit (ahead s 0) trees [] → Halts s h (definitions_at level_limit (ahead s 0)) → told ≡ schema_fault (fault_of_halt s h) → told ≡ fault.Memory
memory_alone s h told trees is e told_is = told_is ∙ ap (λ h. schema_fault (fault_of_halt s h)) (halts_for_memory s h (definitions_at level_limit (ahead s 0)) (trees, []) e (schema_read (ahead s 0) trees is))

-- texts

pub found_in_text : (floats : Bool) (text : List ℕ) (tokens : List Token) (answer : Result SchemaText SchemaTextFault) → LetsFloats text floats → Lexes floats text tokens → IfOk answer (λ s. IsWritten IsSchema level_limit (symbols_from text tokens 0) (schema_trees s) []) → IfOk answer (λ s. HasSchema text (schema_trees s))
found_in_text floats text tokens (Ok schema) lets l is = (floats, lets, (tokens, l, is))
found_in_text floats text tokens (Err told) lets l is = tt

fault_of_text : (floats : Bool) (text : List ℕ) (tokens : List Token) (told : SchemaTextFault) → Lexes floats text tokens → IsFaultAmong text tokens told → IsFaultIf floats text told
fault_of_text floats text tokens (fault.Lex f) l is = absurd is
fault_of_text floats text tokens (fault.Unexpected at) l is = (tokens, l, is)
fault_of_text floats text tokens (fault.Extension at) l is = (tokens, l, is)
fault_of_text floats text tokens (fault.TooDeep at) l is = (tokens, l, is)
fault_of_text floats text tokens fault.Memory l is = tt

pub fault_in_text : (floats : Bool) (text : List ℕ) (tokens : List Token) (answer : Result SchemaText SchemaTextFault) → LetsFloats text floats → Lexes floats text tokens → IfErr answer (λ f. IsFaultAmong text tokens f) → IfErr answer (λ f. IsSchemaFault text f)
fault_in_text floats text tokens (Ok schema) lets l is = tt
fault_in_text floats text tokens (Err told) lets l is = (floats, lets, fault_of_text floats text tokens told l is)

told_lexical : (floats : Bool) (text : List ℕ) (f : LexFault) → IsFaultOf floats text f → IsFaultIf floats text (schema_fault (fault_of_lexing f))
told_lexical floats text lexical.Memory is = tt
told_lexical floats text (lexical.BadChar at) is = (is, λ e. cc)
told_lexical floats text (lexical.BadNumber at) is = (is, λ e. cc)
told_lexical floats text (lexical.OpenText at) is = (is, λ e. cc)
told_lexical floats text (lexical.BadEscape at) is = (is, λ e. cc)
told_lexical floats text (lexical.FloatValue at) is = (is, λ e. cc)

pub fault_of_no_tokens : (floats : Bool) (text : List ℕ) (f : LexFault) (told : SchemaTextFault) → LetsFloats text floats → IsFaultOf floats text f → told ≡ schema_fault (fault_of_lexing f) → IsSchemaFault text told
fault_of_no_tokens floats text f told lets is e = (floats, lets, subst (IsFaultIf floats text) (sym e) (told_lexical floats text f is))

pub memory_of_lexing : (f : LexFault) (told : SchemaTextFault) → f ≡ lexical.Memory → told ≡ schema_fault (fault_of_lexing f) → told ≡ fault.Memory
memory_of_lexing f told is e = e ∙ ap (λ f. schema_fault (fault_of_lexing f)) is

-- the tokens of a schema text are those of the same text as it was lexed
pub lexed_alike : (text : List ℕ) (floats other : Bool) (tokens : List Token) → LetsFloats text floats → LetsFloats text other → Lexes other text tokens → Lexes floats text tokens
lexed_alike text floats other tokens lets it l = subst (λ b. Lexes b text tokens) (used_once (codes "floats") text other floats it lets) l
