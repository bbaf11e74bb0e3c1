-- The words of a line.
use Rattle.std.proofs.Common.{◌≡◌, ℕ, ◌+◌, ◌<◌, List, [], ◌∷◌, length, take, drop, Bool, true, false, cond, not, nat_eq, nat_lt, Option, None, Some, refl, sym, ap, ◌∙◌, arith, true≢false, if◌then◌else◌}
use Rattle.std.specs.Prelude.{⊤}
use Rattle.std.specs.Char.{is_ascii_alphanumeric}
use Rattle.std.specs.Fmt.{decimal}
use Rattle.std.specs.List.{list_all, before_first, after_first, position_or_len}
use Rattle.std.specs.Str.Parse.{AllDigits}
use Rattle.std.proofs.lemmas.Bool.{eqb-true, lt-ltb, ltb-true, and_parts}
use Rattle.std.proofs.lemmas.Option.{same_Some}
use Rattle.std.proofs.lemmas.Str.Parse.{digit_from_value}
use Rattle.std.proofs.lemmas.Fmt.{decimal_is_IsNumeral}
use Rattle.replay_scripts.specs.Words.{is_space, first_word}
use Rattle.replay_scripts.proofs.Cuts.{take_one_more, drop_one_more, drop_two_more}
use Rattle.client_files.specs.ClientLines.{is_key_byte, is_key}
use Rattle.replay_scripts.specs.Steps.{spaced, is_id}

-- a word holds no space
abbrev pub HasNoSpace : List ℕ → Type 0
HasNoSpace [] = ⊤
HasNoSpace (byte ∷ bytes) = (is_space byte ≡ false) × HasNoSpace bytes

-- behind a word stands a space
word_end : (word rest : List ℕ) → HasNoSpace word → position_or_len is_space (spaced word rest) ≡ length word
word_end [] rest none = refl
word_end (byte ∷ bytes) rest none =
    let more = word_end bytes rest none.1 in
    ap (λ test. cond (not test) (1 + position_or_len is_space (spaced bytes rest)) 0) none.0 ∙ omega (arith, more)

word_taken : (word rest : List ℕ) → take (length word) (spaced word rest) ≡ word
word_taken [] rest = refl
word_taken (byte ∷ bytes) rest = ap (λ l. byte ∷ l) (word_taken bytes rest)

rest_left : (word rest : List ℕ) → drop (length word + 1) (spaced word rest) ≡ rest
rest_left [] rest = refl
rest_left (byte ∷ bytes) rest = drop_one_more (length (byte ∷ bytes)) byte (spaced bytes rest) ∙ ap (λ n. drop n (spaced bytes rest)) {x = length (byte ∷ bytes)} {y = length bytes + 1} (omega arith) ∙ rest_left bytes rest

word_within : (word rest : List ℕ) → length word < length (spaced word rest)
word_within [] rest = omega arith
word_within (byte ∷ bytes) rest = omega (arith, word_within bytes rest)

-- a word and a rest, where the test passes
abbrev cut_if : Bool → List ℕ → List ℕ → Option (List ℕ × List ℕ)
cut_if test word rest = if◌then◌else◌ {A = Option (List ℕ × List ℕ)} test (Some (word, rest)) None

cut_at : (text : List ℕ) (n m : ℕ) → n ≡ m → m < length text → cut_if (nat_lt n (length text)) (take n text) (drop (n + 1) text) ≡ Some (take m text, drop (m + 1) text)
cut_at text n m same within =
    let test : nat_lt n (length text) ≡ true = lt-ltb n (length text) (omega (arith, same, within)) in
    ap (λ b. cut_if b (take n text) (drop (n + 1) text)) test ∙ ap (λ k. Some (take k text, drop (k + 1) text)) same

-- what is written with a space behind a word has this word
pub only_word : (word rest : List ℕ) → HasNoSpace word → first_word (spaced word rest) ≡ Some (word, rest)
only_word word rest none =
    cut_at (spaced word rest) (position_or_len is_space (spaced word rest)) (length word) (word_end word rest none) (word_within word rest)
    ∙ (λ i. Some (word_taken word rest i, rest_left word rest i))

found_at : (text : List ℕ) → position_or_len is_space text < length text → text ≡ spaced (before_first is_space text) (after_first is_space text)
found_at [] within = absurd (omega (arith, within))
found_at (byte ∷ bytes) within = by_test (nat_eq byte 32) refl within (found_at bytes)
  where
    at : ℕ
    at = position_or_len is_space bytes

    by_test : (test : Bool) → nat_eq byte 32 ≡ test → cond (not test) (1 + at) 0 < length (byte ∷ bytes) → (at < length bytes → bytes ≡ spaced (take at bytes) (drop (at + 1) bytes))
        → byte ∷ bytes ≡ spaced (take (cond (not test) (1 + at) 0) (byte ∷ bytes)) (drop (cond (not test) (1 + at) 0 + 1) (byte ∷ bytes))
    by_test true is h go = ap (λ b. b ∷ bytes) (eqb-true byte 32 is)
    by_test false is h go = ap (λ l. byte ∷ l) (go (omega (arith, h))) ∙ (λ i. spaced (sym (take_one_more at byte bytes) i) (sym (drop_two_more at byte bytes) i))

-- a first word stands before a space
pub found_word : (text word rest : List ℕ) → first_word text ≡ Some (word, rest) → text ≡ spaced word rest
found_word text word rest is = by_test (nat_lt (position_or_len is_space text) (length text)) refl is
  where
    by_test : (test : Bool) → nat_lt (position_or_len is_space text) (length text) ≡ test → cut_if test (before_first is_space text) (after_first is_space text) ≡ Some (word, rest) → text ≡ spaced word rest
    by_test true t e =
        let same = same_Some _ _ e in
        found_at text (ltb-true _ _ t) ∙ (λ i. spaced (ap (λ cut. cut.0) same i) (ap (λ cut. cut.1) same i))
    by_test false t e = absurd (cc e)

-- words with what stands behind their spaces
pub same_words : (word other rest left : List ℕ) → HasNoSpace word → HasNoSpace other → spaced word rest ≡ spaced other left → (word ≡ other) × (rest ≡ left)
same_words word other rest left none free same =
    let e = same_Some _ _ (sym (only_word word rest none) ∙ ap first_word same ∙ only_word other left free) in
    (ap (λ cut. cut.0) e, ap (λ cut. cut.1) e)

-- of characters among which a space isn't
of_these : (these : ℕ → Bool) (bytes : List ℕ) → these 32 ≡ false → list_all these bytes ≡ true → HasNoSpace bytes
of_these these [] none all = tt
of_these these (byte ∷ bytes) none all =
    let parts = and_parts (these byte) (list_all these bytes) all in
    (by_test (nat_eq byte 32) refl parts.0, of_these these bytes none parts.1)
  where
    by_test : (test : Bool) → nat_eq byte 32 ≡ test → these byte ≡ true → test ≡ false
    by_test true is h = absurd (true≢false (sym h ∙ ap these (eqb-true byte 32 is) ∙ none))
    by_test false is h = refl

pub id_word : (id : List ℕ) → is_id id ≡ true → HasNoSpace id
id_word id is = of_these is_ascii_alphanumeric id refl (and_parts _ _ (and_parts _ _ is).1).1

pub key_word : (key : List ℕ) → is_key key ≡ true → HasNoSpace key
key_word key is = of_these is_key_byte key refl (and_parts _ _ (and_parts _ _ is).1).1

digits_word : (digits : List ℕ) → AllDigits 10 digits → HasNoSpace digits
digits_word [] all = tt
digits_word (digit ∷ digits) all = (by_test (nat_eq digit 32) refl, digits_word digits all.1)
  where
    by_test : (test : Bool) → nat_eq digit 32 ≡ test → test ≡ false
    by_test true is = absurd (omega (arith, eqb-true digit 32 is, digit_from_value digit all.0))
    by_test false is = refl

pub moment_word : (moment : ℕ) → moment < 18446744073709551616 → HasNoSpace (decimal moment)
moment_word moment small = digits_word (decimal moment) (decimal_is_IsNumeral moment (omega (arith, small))).0.1
