-- What is passed on of a field stands in one line.
use Rattle.std.proofs.Common.{◌≡◌, ◌≢◌, ℕ, List, Bool, false, IsTrue, refl}
use Rattle.std.proofs.lemmas.List.Elements.{All-weaker}
use Rattle.httparse.specs.Grammar.{AllPass, is_token_byte, is_value_byte, Field, IsField}
use Rattle.httparse.specs.Spans.{name_and_value}
use Rattle.httparse.proofs.TrimLemmas.{AllPass-trim_ows}
use Rattle.http_front.specs.Passed.{HasNoBreak, StandsInOneLine}

-- a byte that passes a test isn't one that doesn't
not_that : (test : ℕ → Bool) (b other : ℕ) → test other ≡ false → IsTrue (test b) → b ≢ other
not_that test b other fails passes same = cc

module _ (test : ℕ → Bool) (cr : test 13 ≡ false) (lf : test 10 ≡ false) (nul : test 0 ≡ false) where
  no_break : (bytes : List ℕ) → AllPass test bytes → HasNoBreak bytes
  no_break bytes pass = All-weaker (λ b. IsTrue (test b)) (λ b. (b ≢ 13) × (b ≢ 10) × (b ≢ 0)) (λ b passes. (not_that test b 13 cr passes, not_that test b 10 lf passes, not_that test b 0 nul passes)) bytes pass

token_breaks : (is_token_byte 13 ≡ false) × (is_token_byte 10 ≡ false) × (is_token_byte 0 ≡ false)
unfolding is_token_byte
token_breaks = (refl, refl, refl)

pub in_one_line : (field : Field) → IsField field → StandsInOneLine (name_and_value field)
in_one_line field is = (
  no_break is_token_byte token_breaks.0 token_breaks.1 token_breaks.2 field.name is.name.1,
  no_break is_value_byte refl refl refl _ (AllPass-trim_ows is_value_byte field.raw is.raw),
)
