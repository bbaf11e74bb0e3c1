-- Whether a directive is applied in a text: what is left of the text tells it.
use Rattle.std.proofs.Common.{◌≡◌, inl, inr, ℕ, ◌-◌, ◌≤◌, ◌⊎◌, Bool, true, false, ◌&&◌, ◌||◌, List, [], ◌∷◌, ◌++◌, length, take, drop, refl, sym, ap, ◌∙◌, arith, Option, Some, None, Ok, Err, subst}
use Rattle.std.proofs.lemmas.List.{drop_all, take_rest, take_at}
use Rattle.gql_base.specs.declared.lexical.lexing.Front.{Front}
use Rattle.gql_base.specs.declared.lexical.lexing.LexFault.{LexFault}
use Rattle.gql_base.specs.declared.lexical.token.TokenKind.{TokenKind}
use Rattle.gql_base.specs.lexical.Pieces.{Lexeme, Piece, token, byte_order_mark, blank, comment, kind_of, lexeme_bytes, piece_bytes, IsPiece, Divides, BeginsNothing, lexeme_in, lexemes_of}
use Rattle.gql_base.specs.lexical.Faults.{BeginsWithFault}
use Rattle.gql_base.specs.lexical.Tokens.{lexeme_with}
use Rattle.gql_base.specs.lexical.Fronts.{front_of}
use Rattle.gql_base.specs.lexical.Uses.{is_mark_at, is_named, uses_after, IsUsedAfter, IsUsed}
use Rattle.gql_base.proofs.LexicalLaws.FrontPieces.{piece_kind, outline, begins_nothing, BeginsWith, begins_with}
use Rattle.gql_base.proofs.LexicalLaws.FrontFaults.{fault_found}
use Rattle.gql_base.proofs.LexicalLaws.OneDivision.{Divided, divided_by, at_end, same_division}
use Rattle.gql_base.proofs.WayLaws.Places.{same_lexeme}

-- What a rest of a text tells is told of the whole, where `@` stands before the rest or doesn't.
abbrev pub Leads : List ℕ → List ℕ → Bool → List ℕ → Type 0
Leads name whole marked rest = (used : Bool) → IsUsedAfter marked name rest used → IsUsed name whole used

no_lexeme : (p : Piece) → piece_kind p ≡ None → lexeme_in p ≡ []
no_lexeme (token l) none = absurd (cc)
no_lexeme byte_order_mark none = refl
no_lexeme (blank byte) none = refl
no_lexeme (comment bytes) none = refl

one_lexeme : (p : Piece) (kind : TokenKind) → IsPiece true p → piece_kind p ≡ Some kind → lexeme_in p ≡ lexeme_with kind (piece_bytes p) ∷ []
one_lexeme (token l) kind is some =
    let same : kind_of l ≡ kind = cc in
    ap (λ x. x ∷ []) (sym (same_lexeme true l is) ∙ ap (λ k. lexeme_with k (lexeme_bytes l)) same)
one_lexeme byte_order_mark kind is some = absurd (cc)
one_lexeme (blank byte) kind is some = absurd (cc)
one_lexeme (comment bytes) kind is some = absurd (cc)

kind_told : (p : Piece) (f : Front) (kind : Option TokenKind) → outline p ≡ f → f.kind ≡ kind → piece_kind p ≡ kind
kind_told p f kind told is = ap (λ g. g.kind) told ∙ is

-- the bytes of the piece at the front
bytes_told : (text : List ℕ) (f : Front) (begins : BeginsWith true text f) → piece_bytes begins.piece ≡ take f.length text
bytes_told text f begins =
    sym (ap (take f.length) begins.cut ∙ take_at (piece_bytes begins.piece) (drop f.length text) f.length (ap (λ g. g.length) begins.told))

-- ---- one piece more

one_more : (name text : List ℕ) (marked next : Bool) (f : Front) (begins : BeginsWith true text f) (used told : Bool)
    → ((ls : List Lexeme) → uses_after next name ls ≡ used → told ≡ uses_after marked name (lexeme_in begins.piece ++ ls))
    → IsUsedAfter next name (drop f.length text) used → IsUsedAfter marked name text told
unfolding Divides lexemes_of
one_more name text marked next f begins used told same is =
    (begins.piece ∷ is.0, is.1, (drop f.length text, begins.cut, begins.is, begins.ends, is.2), is.3, same (lexemes_of is.0) (sym is.4))

-- what is ignored
pub leads_ignored : (name whole text : List ℕ) (marked : Bool) (f : Front) → Leads name whole marked text → front_of true text ≡ Ok f → f.kind ≡ None → Leads name whole marked (drop f.length text)
leads_ignored name whole text marked f leads found none = λ used is.
    let begins : BeginsWith true text f = begins_with true text f found in
    let nothing : lexeme_in begins.piece ≡ [] = no_lexeme begins.piece (kind_told begins.piece f None begins.told none) in
    leads used (one_more name text marked marked f begins used used (λ ls e. sym e ∙ ap (λ xs. uses_after marked name (xs ++ ls)) (sym nothing)) is)

-- a token that isn't the name behind `@`
pub leads_token : (name whole text : List ℕ) (marked : Bool) (f : Front) (kind : TokenKind) → Leads name whole marked text → front_of true text ≡ Ok f → f.kind ≡ Some kind
    → (marked && is_named name (lexeme_with kind (take f.length text))) ≡ false → Leads name whole (is_mark_at (lexeme_with kind (take f.length text))) (drop f.length text)
unfolding uses_after
leads_token name whole text marked f kind leads found some other = λ used is.
    let l : Lexeme = lexeme_with kind (take f.length text) in
    let begins : BeginsWith true text f = begins_with true text f found in
    let one : lexeme_in begins.piece ≡ l ∷ [] =
    one_lexeme begins.piece kind begins.is (kind_told begins.piece f (Some kind) begins.told some) ∙ ap (λ bytes. lexeme_with kind bytes ∷ []) (bytes_told text f begins) in
    leads used (one_more name text marked (is_mark_at l) f begins used used
    (λ ls e. sym e ∙ ap (λ b. b || uses_after (is_mark_at l) name ls) (sym other) ∙ ap (λ xs. uses_after marked name (xs ++ ls)) (sym one)) is)

-- ---- the end

nothing_there : (rest : List ℕ) → (length rest ≡ 0) ⊎ ((fault : LexFault) × BeginsWithFault true rest fault) → BeginsNothing true rest
nothing_there [] (inl none) = at_end true
nothing_there (c ∷ cs) (inl none) = absurd (omega (arith, none))
nothing_there rest (inr bad) = begins_nothing true rest bad.0 (fault_found true rest bad.0 bad.1)

-- the name behind `@`
pub use_found : (name whole text : List ℕ) (marked : Bool) (f : Front) (kind : TokenKind) → Leads name whole marked text → front_of true text ≡ Ok f → f.kind ≡ Some kind
    → (marked && is_named name (lexeme_with kind (take f.length text))) ≡ true → IsUsed name whole true
unfolding uses_after
use_found name whole text marked f kind leads found some here =
    let l : Lexeme = lexeme_with kind (take f.length text) in
    let begins : BeginsWith true text f = begins_with true text f found in
    let one : lexeme_in begins.piece ≡ l ∷ [] =
    one_lexeme begins.piece kind begins.is (kind_told begins.piece f (Some kind) begins.told some) ∙ ap (λ bytes. lexeme_with kind bytes ∷ []) (bytes_told text f begins) in
    let d : Divided true (drop f.length text) = divided_by true (length (drop f.length text)) (drop f.length text) (omega arith) in
    leads true (one_more name text marked (is_mark_at l) f begins (uses_after (is_mark_at l) name (lexemes_of d.pieces)) true
    (λ ls e. ap (λ b. b || uses_after (is_mark_at l) name ls) (sym here) ∙ ap (λ xs. uses_after marked name (xs ++ ls)) (sym one))
    (d.pieces, d.rest, d.divided, nothing_there d.rest d.stops, refl))

-- a fault
pub no_use_before : (name whole text : List ℕ) (marked : Bool) (fault : LexFault) → Leads name whole marked text → front_of true text ≡ Err fault → IsUsed name whole false
unfolding Divides lexemes_of uses_after
no_use_before name whole text marked fault leads found = leads false ([], text, refl, begins_nothing true text fault found, refl)

-- no text is left
pub no_use : (name whole : List ℕ) (marked : Bool) (at : ℕ) → Leads name whole marked (drop at whole) → length whole ≤ at → IsUsed name whole false
unfolding Divides lexemes_of uses_after
no_use name whole marked at leads end = leads false (subst (λ rest. IsUsedAfter marked name rest false) (sym (drop_all at whole end)) ([], [], refl, at_end true, refl))

-- ---- one answer

pub used_once : (name text : List ℕ) (used other : Bool) → IsUsed name text used → IsUsed name text other → used ≡ other
used_once name text used other is it =
    let same : (is.0 ≡ it.0) × (is.1 ≡ it.1) = same_division true is.0 it.0 text text is.1 it.1 refl is.2 it.2 is.3 it.3 in
    is.4 ∙ ap (λ ps. uses_after false name (lexemes_of ps)) same.0 ∙ sym it.4

pub used_or_not : (name text : List ℕ) → (used : Bool) × IsUsed name text used
used_or_not name text =
    let d : Divided true text = divided_by true (length text) text (omega arith) in
    (uses_after false name (lexemes_of d.pieces), (d.pieces, d.rest, d.divided, nothing_there d.rest d.stops, refl))
