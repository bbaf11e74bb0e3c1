-- The laws of words, strings and things between two punctuators, and what tests say of their first symbols.
use Rattle.std.proofs.Common.{ℕ, ◌≡◌, ◌≤◌, inl, inr, Bool, true, false, List, [], ◌++◌, Some, refl, ap, ◌∙◌}
use Rattle.std.specs.Prelude.{◌||◌}
use Rattle.std.specs.Str.{bytes_eq}
use Rattle.std.proofs.lemmas.Slice.Eq.{bytes_eq-Decides}
use Rattle.gql_base.specs.declared.lexical.token.TokenKind.{TokenKind}
use Rattle.gql_base.specs.declared.lexical.token.TokenKind.TheVariants.{OpenParen, CloseParen}
use Rattle.gql_base.specs.ways.Symbols.{Symbol, punctuator, identifier, integer, decimal, string, Symbols}
use Rattle.gql_base.specs.ways.Reading.{Reader, Test, next, is_some, takes, single, pair, image, one_or_more, inside, when, exact, keyword, any_string, up_to, never}
use Rattle.gql_base.specs.ways.Grammar.{Nested, plain, Single, Pair, Image, Optional, OneOrMore}
use Rattle.gql_base.proofs.WayLaws.ReadingLaws.{Law, Heads, image_law, single_law, after, regroup}
use Rattle.gql_base.proofs.WayLaws.RepeatingLaws.{one_or_more_law}
use Rattle.gql_base.proofs.WayLaws.SymbolTests.{IsPunctuator, when_true, mark_law, heads_single, heads_mark, passes_heads, then_law}
use Rattle.std.proofs.lemmas.Bool.{or_parts}

-- what one of two tests says

pub left_false : (a b : Bool) → (a || b) ≡ false → a ≡ false
left_false a b e = (or_parts a b e).0

pub right_false : (a b : Bool) → (a || b) ≡ false → b ≡ false
right_false a b e = (or_parts a b e).1

-- words

pub word_is : (word : List ℕ) (w : Symbol) (a : Unit {0}) → keyword word w ≡ Some a → (at : ℕ) × (w ≡ identifier word at)
word_is word (identifier bytes at) a e = (at, ap (λ b. identifier b at) ((bytes_eq-Decides bytes word).0 (when_true (bytes_eq bytes word) a e)))
word_is word (punctuator kind) a e = cc
word_is word (integer v) a e = cc
word_is word (decimal bytes) a e = cc
word_is word (string v) a e = cc

-- what the test says of a word
pub heads_word : {b : Bool} {test : Test} {d : ℕ} (word : List ℕ) → ((at : ℕ) → test (Some (identifier word at)) ≡ b) → Heads b test (Single (keyword word) d)
heads_word {b = b} {test = test} {d = d} word says = heads_single b test (keyword word) d (λ w a h. let i = word_is word w a h in ap (λ w. test (Some w)) i.1 ∙ says i.0)

pub takes_word : {d : ℕ} (word : List ℕ) → Heads true (takes (keyword word)) (Single (keyword word) d)
takes_word {d = d} word = heads_single true (takes (keyword word)) (keyword word) d (λ w a h. ap is_some h)

pub word_law : {d n : ℕ} (word : List ℕ) → d ≤ n → Law (Single (keyword word) d) n never (single (keyword word)) (single (keyword word))
word_law word le = single_law (keyword word) tt (identifier word 0) (word_itself word) le
  where
    word_itself : (word : List ℕ) → keyword word (identifier word 0) ≡ Some tt
    word_itself word = ap when ((bytes_eq-Decides word word).1 refl)

-- strings

pub string_is : (w : Symbol) (s : List ℕ) → any_string w ≡ Some s → w ≡ string s
string_is (string v) s e = cc
string_is (punctuator kind) s e = cc
string_is (identifier bytes at) s e = cc
string_is (integer v) s e = cc
string_is (decimal bytes) s e = cc

pub heads_string : {b : Bool} {test : Test} {d : ℕ} → ((v : List ℕ) → test (Some (string v)) ≡ b) → Heads b test (Single any_string d)
heads_string {b = b} {test = test} {d = d} says = heads_single b test any_string d (λ w s h. ap (λ w. test (Some w)) (string_is w s h) ∙ says s)

pub takes_string : {d : ℕ} → Heads true (takes any_string) (Single any_string d)
takes_string = heads_string (λ v. refl)

pub string_law : {d n : ℕ} → d ≤ n → Law (Single any_string d) n never (single any_string) (single any_string)
string_law le = single_law any_string [] (string []) refl le

-- punctuators

pub takes_mark : {d : ℕ} (mark : TokenKind) → Heads true (takes (exact mark)) (Single (exact mark) d)
takes_mark {d = d} mark = heads_single true (takes (exact mark)) (exact mark) d (λ w a h. ap is_some h)

-- the test says b of an optional thing and of what comes after it
pub heads_optional : {A B : Type 0} {b : Bool} {test : Test} {none : A} {S : A → Nested → Type 0} {T : B → Nested → Type 0} → Heads b test S → Heads b test T → Heads b test (Pair (Optional none S) T)
heads_optional {test = test} h i = record {
  says = λ p f rest is. ap (λ (l : Nested). test (next (plain l ++ rest))) is.2 ∙ (ap (λ (l : Symbols). test (next l)) (regroup is.0 is.1 rest) ∙ elim is.3 [
    | inl there ↦ h.says p.0 is.0 (plain is.1 ++ rest) there
    | inr left_out ↦ ap (λ (l : Nested). test (next (plain l ++ (plain is.1 ++ rest)))) left_out.1 ∙ i.says p.1 is.1 rest is.4
  ]);
}

-- one thing or more between two punctuators that open no level
pub between_law : {A : Type 0} {S : A → Nested → Type 0} {n d : ℕ} {first : Test} {r more : Reader A} (open_kind close_kind : TokenKind) → IsPunctuator close_kind → d ≤ n → Law S n first r more → Heads true (up_to close_kind) S → Heads false first S
    → (first (Some (punctuator close_kind)) || up_to close_kind (Some (punctuator close_kind))) ≡ false
    → Law (Image inside (Pair (Single (exact open_kind) d) (Pair (OneOrMore S) (Single (exact close_kind) d)))) n never
    (image inside (pair (single (exact open_kind)) (pair (one_or_more (up_to close_kind) r) (single (exact close_kind))))) (image inside (pair (single (exact open_kind)) (pair (one_or_more (up_to close_kind) more) (single (exact close_kind)))))
between_law {first = first} o c is le l heads apart close = image_law inside (after (mark_law o le) (then_law (one_or_more_law {goes = both} (up_to c) l heads refl apart (λ w e. or_parts (first w) (up_to c w) e)) (mark_law c le)
    (passes_heads (heads_mark c is close))))
  where
    both : Test
    both w = first w || up_to c w

-- one thing or more in parentheses
pub parens_law : {A : Type 0} {S : A → Nested → Type 0} {n d : ℕ} {first : Test} {r more : Reader A} → d ≤ n → Law S n first r more → Heads true (up_to CloseParen) S → Heads false first S → first (Some (punctuator CloseParen)) ≡ false
    → Law (Image inside (Pair (Single (exact OpenParen) d) (Pair (OneOrMore S) (Single (exact CloseParen) d)))) n never
    (image inside (pair (single (exact OpenParen)) (pair (one_or_more (up_to CloseParen) r) (single (exact CloseParen))))) (image inside (pair (single (exact OpenParen)) (pair (one_or_more (up_to CloseParen) more) (single (exact CloseParen)))))
parens_law le l heads apart close = between_law OpenParen CloseParen tt le l heads apart (ap (λ b. b || false) close)
