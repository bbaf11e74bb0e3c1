-- What is found at the front of a text is the piece that begins there, or the fault.
use Rattle.std.proofs.Common.{◌≡◌, inl, inr, ℕ, suc, ◌+◌, ◌-◌, ◌<◌, ◌^◌, Bool, true, false, ◌==◌, ◌&&◌, if◌then◌else◌, List, [], ◌∷◌, ◌++◌, length, take, drop, get_or, refl, sym, ap, ◌∙◌, arith, Option, Some, None, Result, Ok, Err, subst}
use Rattle.std.specs.List.{prefix_len}
use Rattle.std.specs.Char.{is_ascii_digit}
use Rattle.std.specs.Str.Parse.{digits_value}
use Rattle.std.proofs.lemmas.Bool.{cases_Bool, eqb-true, le-leb, lt-ltb, leb-true, ltb-true}
use Rattle.std.proofs.lemmas.Bool.Decides.{nat_tests}
use Rattle.std.proofs.lemmas.List.{take-append-drop, length-take, length-append, append-nil, append_assoc, take_at, drop_at, take_rest}
use Rattle.std.proofs.lemmas.List.Sums.{prefix_len-le-length}
use Rattle.gql_base.specs.declared.lexical.lexing.Front.{Front}
use Rattle.gql_base.specs.declared.lexical.lexing.LexFault.{LexFault}
use Rattle.gql_base.specs.declared.lexical.lexing.LexFault.TheVariants.{BadChar, BadNumber, FloatValue}
use Rattle.gql_base.specs.declared.lexical.numbers.Found.{Found}
use Rattle.gql_base.specs.declared.lexical.token.TokenKind.{TokenKind}
use Rattle.gql_base.specs.declared.lexical.token.TokenKind.TheVariants.{Name, Int, Float, Str, BlockStr, Bang, Dollar, Amp, OpenParen, CloseParen, Spread, Colon, Equals, At, OpenBracket, CloseBracket, OpenBrace, Pipe, CloseBrace}
use Rattle.gql_base.specs.lexical.Characters.{is_name_start, is_name_continue, is_blank, is_comment_byte, is_number_start, follows_no_number}
use Rattle.gql_base.specs.lexical.Numbers.{IsWhole, Numeral, minus_bytes, fraction_bytes, exponent_bytes, numeral_bytes, IsFloat}
use Rattle.gql_base.specs.lexical.Strings.{begins_with_marks}
use Rattle.gql_base.specs.lexical.Pieces.{word, number, float, string, block, mark, Piece, token, byte_order_mark, blank, comment, mark_bytes, kind_of, lexeme_bytes, piece_bytes, IsInRange, IsInteger, IsPiece, EndsBefore, BeginsWithout, BeginsNothing}
use Rattle.gql_base.specs.lexical.Faults.{begins_as_number}
use Rattle.gql_base.specs.lexical.Fronts.{mark_of, is_byte_order_mark, is_spread, piece_from, front_with, mark_front, float_front, found_front, number_found, integer_fits, text_front, front_of}
use Rattle.gql_base.proofs.LexicalLaws.Runs.{run_is_whole, run_passes, run_stops}
use Rattle.gql_base.proofs.LexicalLaws.Integers.{fits_plain}
use Rattle.gql_base.proofs.LexicalLaws.Numerals.{number_there, NumberThere, number_is, IntegerThere, integer_is, found_at}
use Rattle.gql_base.proofs.LexicalLaws.ScannedStrings.{body_faultless, body_closed, body_scanned, single, ends_apart}
use Rattle.gql_base.proofs.LexicalLaws.ScannedBlocks.{block_body_faultless, block_body_closed, block_body_scanned}
use Rattle.gql_base.proofs.LexicalLaws.Texts.{string_there, block_there, StringThere, BlockThere, text_found_single, text_found_block}

abbrev pub piece_kind : Piece → Option TokenKind
piece_kind (token lexeme) = Some (kind_of lexeme)
piece_kind byte_order_mark = None
piece_kind (blank byte) = None
piece_kind (comment bytes) = None

-- how a piece is told by its kind and its length
abbrev pub outline : Piece → Front
outline p = front_with (piece_kind p) (length (piece_bytes p))

abbrev pub ok : Front → Result Front LexFault
ok f = Ok f

-- ---- bytes that begin pieces

name_begins : (c : ℕ) → is_name_start c ≡ true → (is_number_start c ≡ false) × ((c == 34) ≡ false)
name_begins c is = (grind (arith, nat_tests), grind (arith, nat_tests))

blank_begins : (c : ℕ) → is_blank c ≡ true → (is_number_start c ≡ false) × ((c == 34) ≡ false) × (is_name_start c ≡ false)
blank_begins c is = (grind (arith, nat_tests), grind (arith, nat_tests), grind (arith, nat_tests))

digit_begins : (c : ℕ) → is_ascii_digit c ≡ true → is_number_start c ≡ true
digit_begins c is = rw is refl

pub number_no_mark : (c : ℕ) → is_number_start c ≡ true → (c == 34) ≡ false
number_no_mark c is = grind (arith, nat_tests)

pub mark_no_number : (c : ℕ) → (c == 34) ≡ true → is_number_start c ≡ false
mark_no_number c is = grind (arith, nat_tests)

-- ---- a piece that begins a text is found

integer_small : (minus : Bool) (ws : List ℕ) → IsWhole ws → IsInRange minus (digits_value 10 ws) → integer_fits (minus_bytes minus ++ ws) ≡ true
integer_small true ws is small = le-leb (digits_value 10 ws) (2 ^ 127) small
integer_small false [] is small = absurd is
integer_small false (c ∷ cs) is small = fits_plain c cs is.0 ∙ lt-ltb (digits_value 10 (c ∷ cs)) (2 ^ 127) small

pub integer_begins : (minus : Bool) (ws after : List ℕ) → IsWhole ws → begins_as_number ((minus_bytes minus ++ ws) ++ after) ≡ true
integer_begins true ws after is = refl
integer_begins false [] after is = absurd is
integer_begins false (c ∷ cs) after is = digit_begins c is.0

pub front_of_number : (floats : Bool) (text : List ℕ) → begins_as_number text ≡ true → front_of floats text ≡ found_front floats text (number_found text)
unfolding front_of
front_of_number floats [] is = absurd (cc)
front_of_number floats (c ∷ cs) is = rw is refl

numeral_of : Bool → List ℕ → Numeral
numeral_of minus ws = record { minus = minus; whole = ws; fraction = None; exponent = None }

numeral_is : (minus : Bool) (ws : List ℕ) → minus_bytes minus ++ ws ≡ numeral_bytes (numeral_of minus ws)
unfolding numeral_of
numeral_is minus ws = ap (λ xs. minus_bytes minus ++ xs) (sym (append-nil ws))

integer_fronts : (floats : Bool) (bytes after : List ℕ) → IsInteger bytes → BeginsWithout follows_no_number after → front_of floats (bytes ++ after) ≡ Ok (front_with (Some Int) (length bytes))
unfolding numeral_of
integer_fronts floats bytes after is ends =
    let same : bytes ≡ numeral_bytes (numeral_of is.minus is.whole) = is.cut ∙ numeral_is is.minus is.whole in
    let found : number_found (bytes ++ after) ≡ found_at (length (numeral_bytes (numeral_of is.minus is.whole))) false =
    number_there (bytes ++ after) after (numeral_of is.minus is.whole) (ap (λ xs. xs ++ after) same) (is.is, tt, tt) ends in
    let here : number_found (bytes ++ after) ≡ found_at (length bytes) false = found ∙ ap (λ xs. found_at (length xs) false) (sym same) in
    let fits : integer_fits (take (length bytes) (bytes ++ after)) ≡ true = ap integer_fits (take_at bytes after (length bytes) refl ∙ is.cut) ∙ integer_small is.minus is.whole is.is is.small in
    front_of_number floats (bytes ++ after) (ap (λ xs. begins_as_number (xs ++ after)) is.cut ∙ integer_begins is.minus is.whole after is.is)
    ∙ rw here (rw fits refl)

-- the bytes of a float begin as a number
float_begins : (w : List ℕ) (m : Bool) (rest : List ℕ) → IsWhole w → begins_as_number (minus_bytes m ++ (w ++ rest)) ≡ true
float_begins w true rest is = refl
float_begins [] false rest is = absurd is
float_begins (c ∷ cs) false rest is = digit_begins c is.0

float_fronts : (bytes after : List ℕ) → IsFloat bytes → BeginsWithout follows_no_number after → front_of true (bytes ++ after) ≡ Ok (front_with (Some Float) (length bytes))
float_fronts bytes after is ends =
    let n = is.numeral in
    let here : number_found (bytes ++ after) ≡ found_at (length bytes) true =
    number_there (bytes ++ after) after n (ap (λ xs. xs ++ after) is.cut) is.is ends ∙ ap (found_at (length (numeral_bytes n))) is.is_real ∙ ap (λ xs. found_at (length xs) true) (sym is.cut) in
    let cut : bytes ++ after ≡ minus_bytes n.minus ++ (n.whole ++ ((fraction_bytes n.fraction ++ exponent_bytes n.exponent) ++ after)) =
    ap (λ xs. xs ++ after) is.cut ∙ append_assoc (minus_bytes n.minus) _ after ∙ ap (λ xs. minus_bytes n.minus ++ xs) (append_assoc n.whole _ after) in
    front_of_number true (bytes ++ after) (ap begins_as_number cut ∙ float_begins n.whole n.minus _ is.is.0) ∙ rw here refl

front_of_mark : (floats : Bool) (cs : List ℕ) → front_of floats (34 ∷ cs) ≡ text_front (34 ∷ cs)
unfolding front_of
front_of_mark floats cs = refl

string_size : (body : List ℕ) → 1 + length body + 1 ≡ length (lexeme_bytes (string body))
string_size body = omega (arith, length-append body (34 ∷ []))

block_size : (body : List ℕ) → 3 + length body + 3 ≡ length (lexeme_bytes (block body))
block_size body = omega (arith, length-append body (34 ∷ 34 ∷ 34 ∷ []))

string_bytes_before : (body after : List ℕ) → lexeme_bytes (string body) ++ after ≡ 34 ∷ (body ++ 34 ∷ after)
string_bytes_before body after = ap (λ xs. 34 ∷ xs) (append_assoc body (34 ∷ []) after)

block_bytes_before : (body after : List ℕ) → lexeme_bytes (block body) ++ after ≡ 34 ∷ 34 ∷ 34 ∷ (body ++ 34 ∷ 34 ∷ 34 ∷ after)
block_bytes_before body after = ap (λ xs. 34 ∷ 34 ∷ 34 ∷ xs) (append_assoc body (34 ∷ 34 ∷ 34 ∷ []) after)

abbrev kind_front : TokenKind → ℕ → Result Front LexFault
kind_front kind n = Ok (front_with (Some kind) n)

abbrev plain_front : ℕ → Result Front LexFault
plain_front n = Ok (front_with None n)

pub front_is : (floats : Bool) (p : Piece) (after : List ℕ) → IsPiece floats p → EndsBefore p after → front_of floats (piece_bytes p ++ after) ≡ Ok (outline p)
unfolding front_of
front_is floats (token (word [])) after is ends = absurd is
front_is floats (token (word (c ∷ cs))) after is ends =
    rw (name_begins c is.0).0 (rw (name_begins c is.0).1 (rw is.0 (size (run_is_whole is_name_continue cs after is.1 ends))))
  where
    size : prefix_len is_name_continue (cs ++ after) ≡ length cs → kind_front Name (1 + prefix_len is_name_continue (cs ++ after)) ≡ kind_front Name (suc (length cs))
    size same = ap (kind_front Name) (omega (arith, same))
front_is floats (token (number bytes)) after is ends = integer_fronts floats bytes after is ends
front_is floats (token (float bytes)) after is ends = ap (λ b. front_of b (bytes ++ after)) is.0 ∙ float_fronts bytes after is.1 ends
front_is floats (token (string body)) after is ends =
    ap (front_of floats) (string_bytes_before body after) ∙ front_of_mark floats (body ++ 34 ∷ after) ∙ string_there body after (body_closed is.0 body after is.1) (single is.0 body after is.1 ends) (body_faultless is.0 body is.1) ∙ ap (kind_front Str) (string_size body)
front_is floats (token (block body)) after is ends =
    ap (front_of floats) (block_bytes_before body after) ∙ front_of_mark floats (34 ∷ 34 ∷ (body ++ 34 ∷ 34 ∷ 34 ∷ after)) ∙ block_there body after (block_body_closed is.0 body after is.1) (block_body_faultless is.0 body is.1) ∙ ap (kind_front BlockStr) (block_size body)
front_is floats (token (mark Bang)) after is ends = refl
front_is floats (token (mark Dollar)) after is ends = refl
front_is floats (token (mark Amp)) after is ends = refl
front_is floats (token (mark OpenParen)) after is ends = refl
front_is floats (token (mark CloseParen)) after is ends = refl
front_is floats (token (mark Spread)) after is ends = refl
front_is floats (token (mark Colon)) after is ends = refl
front_is floats (token (mark Equals)) after is ends = refl
front_is floats (token (mark At)) after is ends = refl
front_is floats (token (mark OpenBracket)) after is ends = refl
front_is floats (token (mark CloseBracket)) after is ends = refl
front_is floats (token (mark OpenBrace)) after is ends = refl
front_is floats (token (mark Pipe)) after is ends = refl
front_is floats (token (mark CloseBrace)) after is ends = refl
front_is floats (token (mark Name)) after is ends = absurd (omega (arith, is))
front_is floats (token (mark Int)) after is ends = absurd (omega (arith, is))
front_is floats (token (mark Float)) after is ends = absurd (omega (arith, is))
front_is floats (token (mark Str)) after is ends = absurd (omega (arith, is))
front_is floats (token (mark BlockStr)) after is ends = absurd (omega (arith, is))
front_is floats byte_order_mark after is ends = refl
front_is floats (blank byte) after is ends = rw (blank_begins byte is).0 (rw (blank_begins byte is).1 (rw (blank_begins byte is).2 (rw is refl)))
front_is floats (comment bytes) after is ends = ap plain_front (omega (arith, run_is_whole is_comment_byte bytes after is ends))

-- no piece begins where a fault is found
pub begins_nothing : (floats : Bool) (text : List ℕ) (fault : LexFault) → front_of floats text ≡ Err fault → BeginsNothing floats text
begins_nothing floats text fault is = λ p after cut piece ends. let found = front_is floats p after piece ends in let same = ap (front_of floats) cut in cc

run_length : (p : ℕ → Bool) (xs : List ℕ) → length (take (prefix_len p xs) xs) ≡ prefix_len p xs
run_length p xs = omega (arith, length-take (prefix_len p xs) xs, prefix_len-le-length p xs)

-- A piece of this outline is at the front of the text, as long as possible.
pub record BeginsWith (floats : Bool) (text : List ℕ) (f : Front) : Type 0 where
  pub piece : Piece
  pub cut : text ≡ piece_bytes piece ++ drop f.length text
  pub is : IsPiece floats piece
  pub ends : EndsBefore piece (drop f.length text)
  pub told : outline piece ≡ f

begins_with_name : (floats : Bool) (c : ℕ) (cs : List ℕ) → is_name_start c ≡ true → BeginsWith floats (c ∷ cs) (front_with (Some Name) (suc (prefix_len is_name_continue cs)))
begins_with_name floats c cs start = record {
  piece = token (word (c ∷ take (prefix_len is_name_continue cs) cs));
  cut = ap (λ xs. c ∷ xs) (sym (take-append-drop (prefix_len is_name_continue cs) cs));
  is = (start, run_passes is_name_continue cs);
  ends = run_stops is_name_continue cs;
  told = ap (λ n. front_with (Some Name) (suc n)) (run_length is_name_continue cs);
}

begins_with_comment : (floats : Bool) (c : ℕ) (cs : List ℕ) → (c == 35) ≡ true → BeginsWith floats (c ∷ cs) (front_with None (suc (prefix_len is_comment_byte cs)))
begins_with_comment floats c cs start = record {
  piece = comment (take (prefix_len is_comment_byte cs) cs);
  cut = rw (eqb-true c 35 start) (ap (λ xs. 35 ∷ xs) (sym (take-append-drop (prefix_len is_comment_byte cs) cs)));
  is = run_passes is_comment_byte cs;
  ends = run_stops is_comment_byte cs;
  told = ap (λ n. front_with None (suc n)) (run_length is_comment_byte cs);
}

begins_with_blank : (floats : Bool) (c : ℕ) (cs : List ℕ) → is_blank c ≡ true → BeginsWith floats (c ∷ cs) (front_with None 1)
begins_with_blank floats c cs start = record { piece = blank c; cut = refl; is = start; ends = tt; told = refl }

not_all : (b : Bool) → (b && false) ≡ true → ⊥
not_all true e = cc
not_all false e = cc

three_bytes : (c d e x y z : ℕ) → ((c == x) && ((d == y) && (e == z))) ≡ true → (c ≡ x) × (d ≡ y) × (e ≡ z)
three_bytes c d e x y z all = grind (arith, nat_tests)

begins_with_byte_order_mark : (floats : Bool) (c : ℕ) (cs : List ℕ) → is_byte_order_mark c cs ≡ true → BeginsWith floats (c ∷ cs) (front_with None 3)
begins_with_byte_order_mark floats c [] start = absurd (not_all (c == 239) start)
begins_with_byte_order_mark floats c (d ∷ []) start = absurd (not_all (c == 239) start)
begins_with_byte_order_mark floats c (d ∷ e ∷ es) start =
    let told : (c ≡ 239) × (d ≡ 187) × (e ≡ 191) = three_bytes c d e 239 187 191 start in
    record { piece = byte_order_mark; cut = rw (told.0, told.1, told.2) refl; is = tt; ends = tt; told = refl }

begins_with_spread : (floats : Bool) (c : ℕ) (cs : List ℕ) → is_spread c cs ≡ true → BeginsWith floats (c ∷ cs) (front_with (Some Spread) 3)
begins_with_spread floats c [] start = absurd (not_all (c == 46) start)
begins_with_spread floats c (d ∷ []) start = absurd (not_all (c == 46) start)
begins_with_spread floats c (d ∷ e ∷ es) start =
    let told : (c ≡ 46) × (d ≡ 46) × (e ≡ 46) = three_bytes c d e 46 46 46 start in
    record { piece = token (mark Spread); cut = rw (told.0, told.1, told.2) refl; is = omega arith; ends = tt; told = refl }

-- of two ways, that which is taken
one_of : {A : Type 0} (P : A → Type 0) (b : Bool) (x : A) (others : Option A) (f : A) → (b ≡ true → P x) → (others ≡ Some f → P f) → (if b then Some x else others) ≡ Some f → P f
one_of P b x others f here later found =
    elim (cases_Bool b) [
      | inl t ↦ let taken : Some x ≡ Some f = rw t at found in let same : x ≡ f = cc in subst P same (here t)
      | inr n ↦ later (rw n at found)
    ]

one_found : (P : Front → Type 0) (b : Bool) (x : Front) (others : Result Front LexFault) (f : Front) → (b ≡ true → P x) → (others ≡ Ok f → P f) → (if b then Ok x else others) ≡ Ok f → P f
one_found P b x others f here later found =
    elim (cases_Bool b) [
      | inl t ↦ let taken : ok x ≡ ok f = taken_is t in let same : x ≡ f = ok_same x f taken in subst P same (here t)
      | inr n ↦ later (rw n at found)
    ]
  where
    taken_is : b ≡ true → ok x ≡ ok f
    taken_is t = rw t at found

    ok_same : (x f : Front) → ok x ≡ ok f → x ≡ f
    ok_same x f same = cc

IsMarkOf : ℕ → TokenKind → Type 0
IsMarkOf c kind = mark_bytes kind ≡ c ∷ []

mark_when : (c n : ℕ) (kind : TokenKind) → mark_bytes kind ≡ n ∷ [] → (c == n) ≡ true → IsMarkOf c kind
unfolding IsMarkOf
mark_when c n kind bytes same = rw (eqb-true c n same) bytes

mark_of_is : (c : ℕ) (kind : TokenKind) → mark_of c ≡ Some kind → mark_bytes kind ≡ c ∷ []
unfolding IsMarkOf
mark_of_is c kind start =
    one_of (IsMarkOf c) (c == 33) Bang _ kind (mark_when c 33 Bang refl) (
    one_of (IsMarkOf c) (c == 36) Dollar _ kind (mark_when c 36 Dollar refl) (
    one_of (IsMarkOf c) (c == 38) Amp _ kind (mark_when c 38 Amp refl) (
    one_of (IsMarkOf c) (c == 40) OpenParen _ kind (mark_when c 40 OpenParen refl) (
    one_of (IsMarkOf c) (c == 41) CloseParen _ kind (mark_when c 41 CloseParen refl) (
    one_of (IsMarkOf c) (c == 58) Colon _ kind (mark_when c 58 Colon refl) (
    one_of (IsMarkOf c) (c == 61) Equals _ kind (mark_when c 61 Equals refl) (
    one_of (IsMarkOf c) (c == 64) At _ kind (mark_when c 64 At refl) (
    one_of (IsMarkOf c) (c == 91) OpenBracket _ kind (mark_when c 91 OpenBracket refl) (
    one_of (IsMarkOf c) (c == 93) CloseBracket _ kind (mark_when c 93 CloseBracket refl) (
    one_of (IsMarkOf c) (c == 123) OpenBrace _ kind (mark_when c 123 OpenBrace refl) (
    one_of (IsMarkOf c) (c == 124) Pipe _ kind (mark_when c 124 Pipe refl) (
    one_of (IsMarkOf c) (c == 125) CloseBrace _ kind (mark_when c 125 CloseBrace refl) (
    λ none. absurd (cc)))))))))))))) start

begins_with_mark_of : (floats : Bool) (c : ℕ) (cs : List ℕ) (kind : TokenKind) → mark_bytes kind ≡ c ∷ [] → BeginsWith floats (c ∷ cs) (front_with (Some kind) 1)
begins_with_mark_of floats c cs kind bytes = record {
  piece = token (mark kind);
  cut = ap (λ xs. xs ++ cs) (sym bytes);
  is = rw bytes (omega arith);
  ends = tt;
  told = ap (λ xs. front_with (Some kind) (length xs)) bytes;
}

begins_with_some_mark : (floats : Bool) (c : ℕ) (cs : List ℕ) (m : Option TokenKind) (f : Front) → mark_of c ≡ m → mark_front m ≡ Ok f → BeginsWith floats (c ∷ cs) f
begins_with_some_mark floats c cs None f is found = absurd (cc)
begins_with_some_mark floats c cs (Some kind) f is found =
    let same : front_with (Some kind) 1 ≡ f = cc in
    subst (BeginsWith floats (c ∷ cs)) same (begins_with_mark_of floats c cs kind (mark_of_is c kind is))

one_more : (P : ℕ → Type 0) (n : ℕ) → P (suc n) → P (1 + n)
one_more P n h = let e : suc n ≡ 1 + n = omega arith in subst P e h

piece_begins : (floats : Bool) (c : ℕ) (cs : List ℕ) (f : Front) → piece_from c cs ≡ Ok f → BeginsWith floats (c ∷ cs) f
piece_begins floats c cs f found =
    one_found (BeginsWith floats (c ∷ cs)) (is_name_start c) _ _ f
    (λ t. one_more (λ n. BeginsWith floats (c ∷ cs) (front_with (Some Name) n)) (prefix_len is_name_continue cs) (begins_with_name floats c cs t)) (
    one_found (BeginsWith floats (c ∷ cs)) (is_blank c) _ _ f (begins_with_blank floats c cs) (
    one_found (BeginsWith floats (c ∷ cs)) (c == 35) _ _ f
    (λ t. one_more (λ n. BeginsWith floats (c ∷ cs) (front_with None n)) (prefix_len is_comment_byte cs) (begins_with_comment floats c cs t)) (
    one_found (BeginsWith floats (c ∷ cs)) (is_byte_order_mark c cs) _ _ f (begins_with_byte_order_mark floats c cs) (
    one_found (BeginsWith floats (c ∷ cs)) (is_spread c cs) _ _ f (begins_with_spread floats c cs) (
    begins_with_some_mark floats c cs (mark_of c) f refl))))) found

-- what is found where a piece of as many bytes stands begins the text
piece_there : (floats : Bool) (text after : List ℕ) (p : Piece) (f : Front) → text ≡ piece_bytes p ++ after → IsPiece floats p → EndsBefore p after → outline p ≡ f → BeginsWith floats text f
piece_there floats text after p f cut is ends told =
    let rest : drop f.length text ≡ after = ap (drop f.length) cut ∙ drop_at (piece_bytes p) after f.length (ap (λ g. g.length) told) in
    record {
      piece = p;
      cut = cut ∙ ap (λ xs. piece_bytes p ++ xs) (sym rest);
      is = is;
      ends = subst (EndsBefore p) (sym rest) ends;
      told = told;
    }

fits_small : (minus : Bool) (ws : List ℕ) → IsWhole ws → integer_fits (minus_bytes minus ++ ws) ≡ true → IsInRange minus (digits_value 10 ws)
fits_small true ws is fits = leb-true (digits_value 10 ws) (2 ^ 127) fits
fits_small false [] is fits = absurd is
fits_small false (c ∷ cs) is fits = ltb-true (digits_value 10 (c ∷ cs)) (2 ^ 127) (sym (fits_plain c cs is.0) ∙ fits)

integer_begins_with : (floats : Bool) (text : List ℕ) (end : ℕ) (f : Front) (there : IntegerThere text end) → integer_fits (take end text) ≡ true → front_with (Some Int) end ≡ f → BeginsWith floats text f
integer_begins_with floats text end f there fits told =
    let bytes : take end text ≡ minus_bytes there.minus ++ there.whole = ap (take end) there.cut ∙ take_at (minus_bytes there.minus ++ there.whole) (drop end text) end there.size in
    piece_there floats text (drop end text) (token (number (minus_bytes there.minus ++ there.whole))) f there.cut
    (record { minus = there.minus; whole = there.whole; cut = refl; is = there.is; small = fits_small there.minus there.whole there.is (sym (ap integer_fits bytes) ∙ fits) })
    there.ends
    (ap (front_with (Some Int)) there.size ∙ told)

pub ok_same : (f g : Front) → ok f ≡ ok g → f ≡ g
ok_same f g same = cc

abbrev pub err : LexFault → Result Front LexFault
err fault = Err fault

pub err_same : (f g : LexFault) → err f ≡ err g → f ≡ g
err_same f g same = cc

pub not_found : (fault : LexFault) (f : Front) → err fault ≡ ok f → ⊥
not_found fault f same = cc

pub not_faulty : (fault : LexFault) (f : Front) → ok f ≡ err fault → ⊥
not_faulty fault f same = cc

float_begins_with : (floats : Bool) (text : List ℕ) (n : Found) (f : Front) (there : NumberThere text n) → n.is_float ≡ true → float_front floats n.end ≡ Ok f → BeginsWith floats text f
float_begins_with false text n f there real found = absurd (not_found (FloatValue 0) f found)
float_begins_with true text n f there real found =
    piece_there true text (drop n.end text) (token (float (numeral_bytes there.numeral))) f there.cut
    (refl, record { numeral = there.numeral; cut = refl; is = there.is; is_real = there.real ∙ real })
    there.ends
    (ap (front_with (Some Float)) there.size ∙ ok_same _ _ found)

number_begins_with : (floats : Bool) (text : List ℕ) (f : Front) (o : Option Found) → number_found text ≡ o → found_front floats text o ≡ Ok f → BeginsWith floats text f
number_begins_with floats text f None is found = absurd (not_found (BadNumber 0) f found)
number_begins_with floats text f (Some n) is found =
    elim (cases_Bool n.is_float) [
      | inl t ↦ float_begins_with floats text n f (number_is text n is) t (rw t at found)
      | inr whole ↦
          elim (cases_Bool (integer_fits (take n.end text))) [
            | inl fits ↦ integer_begins_with floats text n.end f (integer_is text n whole (number_is text n is)) fits (ok_same _ _ (rw (whole, fits) at found))
            | inr no_fit ↦ absurd (not_found (BadNumber 0) f (rw (whole, no_fit) at found))
          ]
    ]

string_begins_with : (floats : Bool) (text : List ℕ) (f : Front) → StringThere text f → BeginsWith floats text f
string_begins_with floats text f s =
    piece_there floats text s.after (token (string s.body)) f (s.cut ∙ sym (string_bytes_before s.body s.after)) (body_scanned s.body s.after s.sound s.closed) (ends_apart s.body s.after s.single)
    (ap (front_with (Some Str)) (sym (string_size s.body)) ∙ s.told)

block_begins_with : (floats : Bool) (text : List ℕ) (f : Front) → BlockThere text f → BeginsWith floats text f
block_begins_with floats text f s =
    piece_there floats text s.after (token (block s.body)) f (s.cut ∙ sym (block_bytes_before s.body s.after)) (block_body_scanned s.body s.after s.sound s.closed) tt
    (ap (front_with (Some BlockStr)) (sym (block_size s.body)) ∙ s.told)

text_begins_with : (floats : Bool) (cs : List ℕ) (f : Front) → text_front (34 ∷ cs) ≡ Ok f → BeginsWith floats (34 ∷ cs) f
text_begins_with floats cs f found =
    elim (cases_Bool (begins_with_marks (34 ∷ cs))) [
      | inl t ↦ block_begins_with floats (34 ∷ cs) f (text_found_block (34 ∷ cs) f t found)
      | inr single ↦ string_begins_with floats (34 ∷ cs) f (text_found_single cs f single found)
    ]

mark_begins_with : (floats : Bool) (c : ℕ) (cs : List ℕ) (f : Front) → c ≡ 34 → text_front (c ∷ cs) ≡ Ok f → BeginsWith floats (c ∷ cs) f
mark_begins_with floats c cs f is found = subst (λ x. BeginsWith floats (x ∷ cs) f) (sym is) (text_begins_with floats cs f (sym (ap (λ x. text_front (x ∷ cs)) is) ∙ found))

-- what is found at the front begins the text
pub begins_with : (floats : Bool) (text : List ℕ) (f : Front) → front_of floats text ≡ Ok f → BeginsWith floats text f
unfolding front_of
begins_with floats [] f found = absurd (not_found (BadChar 0) f found)
begins_with floats (c ∷ cs) f found =
    elim (cases_Bool (is_number_start c)) [
      | inl t ↦ number_begins_with floats (c ∷ cs) f (number_found (c ∷ cs)) refl (rw t at found)
      | inr n ↦
          elim (cases_Bool (c == 34)) [
            | inl t ↦ mark_begins_with floats c cs f (eqb-true c 34 t) (rw (n, t) at found)
            | inr m ↦ piece_begins floats c cs f (rw (n, m) at found)
          ]
    ]

-- ---- the code's own cases

pub front_of_nothing : (floats : Bool) (text : List ℕ) → length text < 1 → Err (BadChar 0) ≡ front_of floats text
unfolding front_of
front_of_nothing floats [] short = refl
front_of_nothing floats (c ∷ cs) short = absurd (omega (arith, short))

pub front_number : (floats : Bool) (text : List ℕ) → 0 < length text → is_number_start (get_or text 0 0) ≡ true → front_of floats text ≡ found_front floats text (number_found text)
unfolding front_of
front_number floats [] long is = absurd (omega (arith, long))
front_number floats (c ∷ cs) long is = rw is refl

pub front_text : (floats : Bool) (text : List ℕ) → 0 < length text → is_number_start (get_or text 0 0) ≡ false → (get_or text 0 0 == 34) ≡ true → front_of floats text ≡ text_front text
unfolding front_of
front_text floats [] long no_number is = absurd (omega (arith, long))
front_text floats (c ∷ cs) long no_number is = rw no_number (rw is refl)

pub front_other : (floats : Bool) (text : List ℕ) → 0 < length text → is_number_start (get_or text 0 0) ≡ false → (get_or text 0 0 == 34) ≡ false → front_of floats text ≡ piece_from (get_or text 0 0) (take (length text - 1) (drop 1 text))
unfolding front_of
front_other floats [] long no_number is = absurd (omega (arith, long))
front_other floats (c ∷ cs) long no_number is = rw no_number (rw is (ap (piece_from c) (sym (take_rest (c ∷ cs) 1))))

pub one_test : (c : ℕ) → c ≡ 34 → (c == 34) ≡ true
one_test c is = rw is refl

pub other_test : (c : ℕ) → (c ≡ 34 → ⊥) → (c == 34) ≡ false
other_test c is = grind (arith, nat_tests)
