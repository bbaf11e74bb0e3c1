-- The value of each string token of a text is what its characters stand for.
use Rattle.std.proofs.Common.{◌≡◌, ℕ, suc, ◌+◌, ◌≤◌, List, [], ◌∷◌, ◌++◌, length, drop, All, IsUtf8, sym, ap, ◌∙◌, arith, subst, Bool}
use Rattle.std.proofs.lemmas.List.{length-append, length-drop}
use Rattle.std.proofs.lemmas.List.Elements.{All-nil, All-cons}
use Rattle.gql_base.specs.declared.lexical.token.Token.{Token}
use Rattle.gql_base.specs.lexical.Pieces.{Lexeme, word, number, float, string, block, mark, Piece, token, byte_order_mark, blank, comment, lexeme_bytes, kind_of, IsLexeme, Divides, token_at, tokens_from}
use Rattle.gql_base.specs.lexical.Scans.{text_value}
use Rattle.gql_base.specs.lexical.Blocks.{lines_value, block_text}
use Rattle.gql_base.specs.lexical.Tokens.{Lexes, lexeme_with, lexeme_of}
use Rattle.gql_base.specs.lexical.Literals.{string_of}
use Rattle.gql_base.specs.lexical.StringTokens.{StandsFor}
use Rattle.gql_base.proofs.LexicalLaws.Runs.{rest_after}
use Rattle.gql_base.proofs.LexicalLaws.ScannedStrings.{body_value}
use Rattle.gql_base.proofs.LexicalLaws.ScannedBlocks.{block_body_value}
use Rattle.gql_base.proofs.WayLaws.Places.{bytes_of_token, same_lexeme}
use Rattle.gql_base.proofs.PrintingLaws.TokenSymbols.{string_body, block_body}

stands_for : (floats : Bool) (text after : List ℕ) (at : ℕ) (l : Lexeme) → IsUtf8 text → at ≤ length text → drop at text ≡ lexeme_bytes l ++ after → IsLexeme floats l → StandsFor (string_of text (token_at at l)) l
unfolding string_of block_text
stands_for floats text after at (string body) utf8 within cut is = (is.0, is.1, ap (text_value 0) (string_body text after body at utf8 within cut) ∙ body_value is.0 body is.1)
stands_for floats text after at (block body) utf8 within cut is = (is.0, is.1, ap block_text (block_body text after body at utf8 within cut) ∙ ap lines_value (block_body_value is.0 body is.1))
stands_for floats text after at (word bytes) utf8 within cut is = tt
stands_for floats text after at (number bytes) utf8 within cut is = tt
stands_for floats text after at (float bytes) utf8 within cut is = tt
stands_for floats text after at (mark kind) utf8 within cut is = tt

abbrev Stands : List ℕ → Token → Type 0
Stands text t = StandsFor (string_of text t) (lexeme_of text t)

token_stands : (floats : Bool) (text after : List ℕ) (at : ℕ) (l : Lexeme) → IsUtf8 text → at ≤ length text → drop at text ≡ lexeme_bytes l ++ after → IsLexeme floats l → Stands text (token_at at l)
token_stands floats text after at l utf8 within cut is =
    let here : lexeme_of text (token_at at l) ≡ l = ap (lexeme_with (kind_of l)) (bytes_of_token floats text after at l utf8 within cut is) ∙ same_lexeme floats l is in
    subst (StandsFor (string_of text (token_at at l))) (sym here) (stands_for floats text after at l utf8 within cut is)

-- what holds from the place after some bytes on
stand_after : (floats : Bool) (ps : List Piece) (text after xs : List ℕ) (at : ℕ) → (at + length xs ≤ length text → Divides floats ps (drop (at + length xs) text) [] → All (Stands text) (tokens_from (at + length xs) ps)) → at ≤ length text → drop at text ≡ xs ++ after → Divides floats ps after [] → All (Stands text) (tokens_from (at + length xs) ps)
stand_after floats ps text after xs at next within cut d =
    next (omega (arith, ap length cut, length-append xs after, length-drop at text, within)) (subst (λ t. Divides floats ps t []) (sym (rest_after text xs after at cut)) d)

stand_from : (floats : Bool) (ps : List Piece) (text : List ℕ) (at : ℕ) → IsUtf8 text → at ≤ length text → Divides floats ps (drop at text) [] → All (Stands text) (tokens_from at ps)
unfolding Divides tokens_from
stand_from floats [] text at utf8 within d = All-nil (Stands text)
stand_from floats (token l ∷ ps) text at utf8 within d =
    All-cons (Stands text) (token_at at l) (tokens_from (at + length (lexeme_bytes l)) ps) (token_stands floats text d.0 at l utf8 within d.1 d.2)
    (stand_after floats ps text d.0 (lexeme_bytes l) at (stand_from floats ps text (at + length (lexeme_bytes l)) utf8) within d.1 d.4)
stand_from floats (byte_order_mark ∷ ps) text at utf8 within d = stand_after floats ps text d.0 (239 ∷ 187 ∷ 191 ∷ []) at (stand_from floats ps text (at + 3) utf8) within d.1 d.4
stand_from floats (blank byte ∷ ps) text at utf8 within d = stand_after floats ps text d.0 (byte ∷ []) at (stand_from floats ps text (at + 1) utf8) within d.1 d.4
stand_from floats (comment bytes ∷ ps) text at utf8 within d = stand_after floats ps text d.0 (35 ∷ bytes) at (stand_from floats ps text (at + suc (length bytes)) utf8) within d.1 d.4

pub tokens_stand : (floats : Bool) (text : List ℕ) (ts : List Token) → IsUtf8 text → Lexes floats text ts → All (λ t. StandsFor (string_of text t) (lexeme_of text t)) ts
tokens_stand floats text ts utf8 l = subst (All (Stands text)) (sym l.told) (stand_from floats l.pieces text 0 utf8 (omega arith) l.divided)
