-- A text has as many characters as bytes that begin one.
use lib.Utf8.{encode}
use Rattle.std.proofs.Common.{◌≡◌, ℕ, suc, ◌+◌, ◌/◌, ◌%◌, Bool, true, false, cond, ltb, List, [], ◌∷◌, ◌++◌, length, IsUtf8, encode_utf8_all, refl, sym, ap, ◌∙◌, subst, append_assoc, arith}
use Rattle.std.specs.List.{filter}
use Rattle.std.specs.Str.{chars}
use Rattle.std.proofs.lemmas.Bool.Decides.{nat_tests}
use Rattle.std.proofs.lemmas.Str.{chars-encodes}
use Rattle.text_places.specs.Places.{begins_character, characters}

counts : (b : ℕ) (bytes : List ℕ) → begins_character b ≡ true → characters (b ∷ bytes) ≡ suc (characters bytes)
counts b bytes begins = ap (λ (t : Bool). length (cond t (b ∷ filter begins_character bytes) (filter begins_character bytes))) begins

passes : (b : ℕ) (bytes : List ℕ) → begins_character b ≡ false → characters (b ∷ bytes) ≡ characters bytes
passes b bytes other = ap (λ (t : Bool). length (cond t (b ∷ filter begins_character bytes) (filter begins_character bytes))) other

-- a byte behind the first one of a character
abbrev behind : ℕ → ℕ
behind bits = 128 + bits % 64

is_behind : (bits : ℕ) → begins_character (behind bits) ≡ false
is_behind bits = grind (arith, nat_tests)

leads : (b : ℕ) → begins_character (192 + b) ≡ true
leads b = grind (arith, nat_tests)

module _ (c : ℕ) (rest : List ℕ) where
  abbrev of_bytes : Bool → Bool → Bool → List ℕ
  of_bytes one two three =
      cond one (c ∷ []) (cond two ((192 + c / 64) ∷ behind c ∷ []) (cond three ((224 + c / 4096) ∷ behind (c / 64) ∷ behind c ∷ []) ((240 + c / 262144) ∷ behind (c / 4096) ∷ behind (c / 64) ∷ behind c ∷ [])))

  by_length : (one two three : Bool) → ltb c 128 ≡ one → characters (of_bytes one two three ++ rest) ≡ suc (characters rest)
  by_length true two three small = counts c rest (grind (arith, nat_tests))
  by_length false true three large = counts (192 + c / 64) (behind c ∷ rest) (leads (c / 64)) ∙ ap suc (passes (behind c) rest (is_behind c))
  by_length false false true large =
      counts (224 + c / 4096) (behind (c / 64) ∷ (behind c ∷ rest)) (grind (arith, nat_tests))
      ∙ ap suc (passes (behind (c / 64)) (behind c ∷ rest) (is_behind (c / 64)) ∙ passes (behind c) rest (is_behind c))
  by_length false false false large =
      counts (240 + c / 262144) (behind (c / 4096) ∷ (behind (c / 64) ∷ (behind c ∷ rest))) (grind (arith, nat_tests))
      ∙ ap suc (passes (behind (c / 4096)) (behind (c / 64) ∷ (behind c ∷ rest)) (is_behind (c / 4096))
      ∙ passes (behind (c / 64)) (behind c ∷ rest) (is_behind (c / 64)) ∙ passes (behind c) rest (is_behind c))

  one_counted : characters (encode c ++ rest) ≡ suc (characters rest)
  unfolding encode
  one_counted = by_length (ltb c 128) (ltb c 2048) (ltb c 65536) refl

some_counted : (cs : List ℕ) → characters (encode_utf8_all cs) ≡ length cs
some_counted [] = refl
some_counted (c ∷ cs) = one_counted c (encode_utf8_all cs) ∙ ap suc (some_counted cs)

pub all_counted : (text : List ℕ) → IsUtf8 text → characters text ≡ length (chars text)
all_counted text utf8 = subst (λ (t : List ℕ). characters t ≡ length (chars t)) utf8.1.1 (some_counted utf8.0 ∙ sym (ap length (chars-encodes utf8.0 utf8.1.0)))
