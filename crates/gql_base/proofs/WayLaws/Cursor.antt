-- The symbols of a source from a token on.
use Rattle.std.proofs.Common.{ℕ, suc, ◌+◌, ◌≡◌, ◌≤◌, ◌<◌, Bool, true, false, List, [], ◌∷◌, length, slice_index_or, Some, refl, sym, ap, ◌∙◌, arith}
use Rattle.std.specs.Prelude.{◌==◌}
use Rattle.std.proofs.lemmas.List.{drop_all}
use Rattle.std.proofs.Math.Seq.{drop-cons}
use Rattle.gql_base.specs.declared.lexical.token.TokenKind.{TokenKind}
use Rattle.gql_base.specs.declared.lexical.token.TokenKind.TheVariants.{Name, Int, Float, Str, BlockStr, Bang, Dollar, Amp, OpenParen, CloseParen, Spread, Colon, Equals, At, OpenBracket, CloseBracket, OpenBrace, Pipe, CloseBrace}
use Rattle.gql_base.specs.declared.lexical.token.Token.{Token}
use Rattle.gql_base.specs.declared.ways.source.Source.{Source}
use Rattle.gql_base.specs.ways.Symbols.{Symbols, kind_of, kind_number, symbol_with, symbol_of, symbols_from}
use Rattle.gql_base.specs.ways.Reading.{single, takes, next, taken, is_some, is_there, when, exact}
use Rattle.gql_base.specs.ways.Sources.{ahead, ahead_with}

pub some_ahead : (s : Source) (at : ℕ) (default : Token) → at < length s.tokens.now → ahead s at ≡ symbol_of s.text.now (slice_index_or s.tokens.now at default) ∷ ahead s (at + 1)
unfolding symbols_from
some_ahead s at default h = let e : at + 1 ≡ suc at = omega arith in rw (drop-cons s.tokens.now at default h, e) refl

pub none_ahead : (s : Source) (at : ℕ) → length s.tokens.now ≤ at → ahead s at ≡ []
unfolding symbols_from
none_ahead s at h = rw (drop_all at s.tokens.now h) refl

pub there_is : (s : Source) (at : ℕ) → at < length s.tokens.now → true ≡ is_there (next (ahead s at))
there_is s at h = ap (λ (l : Symbols). is_there (next l)) (sym (some_ahead s at (record { kind = Name; span = record { start = 0; end = 0 } }) h))

pub there_is_none : (s : Source) (at : ℕ) → length s.tokens.now ≤ at → false ≡ is_there (next (ahead s at))
there_is_none s at h = ap (λ (l : Symbols). is_there (next l)) (sym (none_ahead s at h))

number_with : (kind : TokenKind) (text : List ℕ) (token : Token) → kind_number (kind_of (symbol_with kind text token)) ≡ kind_number kind
number_with Name text token = refl
number_with Int text token = refl
number_with Float text token = refl
number_with Str text token = refl
number_with BlockStr text token = refl
number_with Bang text token = refl
number_with Dollar text token = refl
number_with Amp text token = refl
number_with OpenParen text token = refl
number_with CloseParen text token = refl
number_with Spread text token = refl
number_with Colon text token = refl
number_with Equals text token = refl
number_with At text token = refl
number_with OpenBracket text token = refl
number_with CloseBracket text token = refl
number_with OpenBrace text token = refl
number_with Pipe text token = refl
number_with CloseBrace text token = refl

exact_token : (kind : TokenKind) (text : List ℕ) (token : Token) → exact kind (symbol_of text token) ≡ when (kind_number kind == kind_number token.kind)
exact_token kind text token = ap (λ n. when (kind_number kind == n)) (number_with token.kind text token)

some_when : (b : Bool) → is_some (when b) ≡ b
some_when true = refl
some_when false = refl

pub takes_ahead : (s : Source) (at : ℕ) (kind : TokenKind) (token : Token) → ahead s at ≡ ahead_with s at (Some token) → takes (exact kind) (next (ahead s at)) ≡ (kind_number kind == kind_number token.kind)
takes_ahead s at kind token e = ap (λ (l : Symbols). takes (exact kind) (next l)) e ∙ (ap is_some (exact_token kind s.text.now token) ∙ some_when (kind_number kind == kind_number token.kind))

pub single_ahead : (s : Source) (at : ℕ) (kind : TokenKind) (token : Token) → ahead s at ≡ ahead_with s at (Some token) → single (exact kind) (ahead s at) ≡ taken (when (kind_number kind == kind_number token.kind)) (ahead s (at + 1)) (ahead s at)
single_ahead s at kind token e = ap (single (exact kind)) e ∙ (ap (λ o. taken o (ahead s (at + 1)) (ahead_with s at (Some token))) (exact_token kind s.text.now token) ∙ ap (λ (l : Symbols). taken (when (kind_number kind == kind_number token.kind)) (ahead s (at + 1)) l) (sym e))
