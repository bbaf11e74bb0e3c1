-- What holds of a text that is divided into pieces.
use Rattle.std.proofs.Common.{◌≡◌, ℕ, ◌+◌, ◌-◌, ◌<◌, ◌≤◌, List, [], ◌∷◌, ◌++◌, length, take, drop, refl, sym, ap, ◌∙◌, arith, Option, Some, None, Ok, Err, subst, Bool}
use Rattle.std.proofs.lemmas.List.{append-nil, length-append, length-drop, drop-drop, drop_all, append_assoc, take_rest}
use Rattle.gql_base.specs.declared.lexical.lexing.Front.{Front}
use Rattle.gql_base.specs.declared.lexical.token.Token.{Token}
use Rattle.gql_base.specs.declared.lexical.token.TokenKind.{TokenKind}
use Rattle.gql_base.specs.lexical.Pieces.{Piece, token, byte_order_mark, blank, comment, lexeme_bytes, kind_of, piece_bytes, IsPiece, EndsBefore, Divides, tokens_from, token_of}
use Rattle.gql_base.specs.declared.lexical.lexing.LexFault.{LexFault}
use Rattle.gql_base.specs.lexical.Faults.{HasFault, moved}
use Rattle.gql_base.specs.lexical.Tokens.{Lexes}
use Rattle.gql_base.specs.lexical.Fronts.{front_of}
use Rattle.gql_base.proofs.LexicalLaws.FrontPieces.{piece_kind, outline, BeginsWith, begins_with}
use Rattle.gql_base.proofs.LexicalLaws.FrontFaults.{fault_is}

-- All before the place is pieces, of which these are the tokens.
pub record LexedUpTo (floats : Bool) (text : List ℕ) (at : ℕ) (tokens : List Token) : Type 0 where
  pub pieces : List Piece
  pub divided : Divides floats pieces text (drop at text)
  pub told : tokens ≡ tokens_from 0 pieces

-- a text in which nothing is read yet
pub lexed_at_start : (floats : Bool) (text : List ℕ) (tokens : List Token) → tokens ≡ [] → LexedUpTo floats text 0 tokens
unfolding Divides tokens_from
lexed_at_start floats text tokens none = record { pieces = []; divided = refl; told = none }

-- how many bytes pieces have
unfoldable pub extent : List Piece → ℕ
extent [] = 0
extent (p ∷ ps) = length (piece_bytes p) + extent ps

pub extent_is : (floats : Bool) (ps : List Piece) (text rest : List ℕ) → Divides floats ps text rest → length text ≡ extent ps + length rest
unfolding Divides extent
extent_is floats [] text rest d = ap length d ∙ omega arith
extent_is floats (p ∷ ps) text rest d =
    omega (arith, ap length d.1, length-append (piece_bytes p) d.0, extent_is floats ps d.0 rest d.4)

-- one more piece
divides_more : (floats : Bool) (ps : List Piece) (text rest after : List ℕ) (p : Piece) → Divides floats ps text rest → rest ≡ piece_bytes p ++ after → IsPiece floats p → EndsBefore p after → Divides floats (ps ++ p ∷ []) text after
unfolding Divides
divides_more floats [] text rest after p d cut is ends = (after, d ∙ cut, is, ends, refl)
divides_more floats (q ∷ qs) text rest after p d cut is ends = (d.0, d.1, d.2, d.3, divides_more floats qs d.0 rest after p d.4 cut is ends)

tokens_more : (at : ℕ) (ps : List Piece) (p : Piece) → tokens_from at (ps ++ p ∷ []) ≡ tokens_from at ps ++ token_of (at + extent ps) p
unfolding tokens_from extent
tokens_more at [] p = append-nil (token_of at p) ∙ ap (λ n. token_of n p) (omega arith)
tokens_more at (q ∷ qs) p =
    let place : at + length (piece_bytes q) + extent qs ≡ at + (length (piece_bytes q) + extent qs) = omega arith in
    rw (tokens_more (at + length (piece_bytes q)) qs p, place, append_assoc) refl

-- the place after pieces is as far as their bytes
place_is : (floats : Bool) (ps : List Piece) (text : List ℕ) (at : ℕ) → at ≤ length text → Divides floats ps text (drop at text) → extent ps ≡ at
place_is floats ps text at within d = omega (arith, extent_is floats ps text (drop at text) d, length-drop at text)

-- the token of a piece that has this kind and length
token_of_kind : (at : ℕ) (p : Piece) (kind : TokenKind) → piece_kind p ≡ Some kind → token_of at p ≡ record { kind = kind; span = record { start = at; end = at + length (piece_bytes p) } } ∷ []
token_of_kind at (token lexeme) kind same =
    let e : kind_of lexeme ≡ kind = cc in
    ap (λ k. record { kind = k; span = record { start = at; end = at + length (lexeme_bytes lexeme) } } ∷ []) e
token_of_kind at byte_order_mark kind same = absurd (cc)
token_of_kind at (blank byte) kind same = absurd (cc)
token_of_kind at (comment bytes) kind same = absurd (cc)

token_of_none : (at : ℕ) (p : Piece) → piece_kind p ≡ None → token_of at p ≡ []
token_of_none at (token lexeme) none = absurd (cc)
token_of_none at byte_order_mark none = refl
token_of_none at (blank byte) none = refl
token_of_none at (comment bytes) none = refl

-- a text that is read up to a place and up to the end of the piece there
lexed_more : (floats : Bool) (text : List ℕ) (at : ℕ) (tokens read : List Token) (f : Front) (begins : BeginsWith floats (drop at text) f) → at ≤ length text → LexedUpTo floats text at tokens → read ≡ tokens ++ token_of at begins.piece → LexedUpTo floats text (at + f.length) read
lexed_more floats text at tokens read f begins within lexed more = record {
  pieces = lexed.pieces ++ begins.piece ∷ [];
  divided = rw (sym (drop-drop f.length at text)) (divides_more floats lexed.pieces text (drop at text) (drop f.length (drop at text)) begins.piece lexed.divided begins.cut begins.is begins.ends);
  told =
      let place : 0 + extent lexed.pieces ≡ at = omega (arith, place_is floats lexed.pieces text at within lexed.divided) in
      more ∙ ap (λ ts. ts ++ token_of at begins.piece) lexed.told ∙ sym (tokens_more 0 lexed.pieces begins.piece ∙ ap (λ n. tokens_from 0 lexed.pieces ++ token_of n begins.piece) place);
}

-- what was found in the bytes from a place on
begins_at : (floats : Bool) (text : List ℕ) (at : ℕ) (f : Front) → front_of floats (take (length text - at) (drop at text)) ≡ Ok f → BeginsWith floats (drop at text) f
begins_at floats text at f found = begins_with floats (drop at text) f (sym (ap (front_of floats) (take_rest text at)) ∙ found)

piece_kind_is : (p : Piece) (f : Front) (kind : Option TokenKind) → outline p ≡ f → f.kind ≡ kind → piece_kind p ≡ kind
piece_kind_is p f kind told is = ap (λ g. g.kind) told ∙ is

-- a piece that is ignored
pub lexed_ignored : (floats : Bool) (text : List ℕ) (at : ℕ) (tokens : List Token) (f : Front) → at ≤ length text → LexedUpTo floats text at tokens → front_of floats (take (length text - at) (drop at text)) ≡ Ok f → f.kind ≡ None → LexedUpTo floats text (at + f.length) tokens
lexed_ignored floats text at tokens f within lexed found none =
    let begins : BeginsWith floats (drop at text) f = begins_at floats text at f found in
    lexed_more floats text at tokens tokens f begins within lexed
    (sym (append-nil tokens) ∙ ap (λ ts. tokens ++ ts) (sym (token_of_none at begins.piece (piece_kind_is begins.piece f None begins.told none))))

-- a piece that is a token
pub lexed_token : (floats : Bool) (text : List ℕ) (at : ℕ) (tokens : List Token) (f : Front) (kind : TokenKind) → at ≤ length text → LexedUpTo floats text at tokens → front_of floats (take (length text - at) (drop at text)) ≡ Ok f → f.kind ≡ Some kind → LexedUpTo floats text (at + f.length) (tokens ++ record { kind = kind; span = record { start = at; end = at + f.length } } ∷ [])
lexed_token floats text at tokens f kind within lexed found some =
    let begins : BeginsWith floats (drop at text) f = begins_at floats text at f found in
    lexed_more floats text at tokens _ f begins within lexed
    (ap (λ ts. tokens ++ ts) (sym (token_of_kind at begins.piece kind (piece_kind_is begins.piece f (Some kind) begins.told some)
    ∙ ap (λ n. record { kind = kind; span = record { start = at; end = at + n } } ∷ []) (ap (λ g. g.length) begins.told))))

-- a text that is read to its end
pub lexed_whole : (floats : Bool) (bytes text : List ℕ) (at : ℕ) (tokens : List Token) → bytes ≡ text → length bytes ≤ at → LexedUpTo floats bytes at tokens → Lexes floats text tokens
lexed_whole floats bytes text at tokens same end lexed = record {
  pieces = lexed.pieces;
  divided = rw (sym same) (subst (Divides floats lexed.pieces bytes) (drop_all at bytes end) lexed.divided);
  told = lexed.told;
}

-- a text that is read up to a place where a fault is found
pub fault_at : (floats : Bool) (bytes text : List ℕ) (at : ℕ) (tokens : List Token) (fault : LexFault) → bytes ≡ text → at < length bytes → LexedUpTo floats bytes at tokens → front_of floats (take (length bytes - at) (drop at bytes)) ≡ Err fault → HasFault floats text (moved at fault)
fault_at floats bytes text at tokens fault same below lexed found =
    subst (λ t. HasFault floats t (moved at fault)) same (record {
      at = at;
      inside = below;
      pieces = lexed.pieces;
      divided = lexed.divided;
      first = fault;
      begins = fault_is floats (drop at bytes) fault (sym (ap (front_of floats) (take_rest bytes at)) ∙ found);
      told = refl;
    })
