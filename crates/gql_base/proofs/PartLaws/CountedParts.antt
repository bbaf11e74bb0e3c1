-- The nestings of the symbols of arguments, directives, defaults, words and strings are those that counting brackets gives.
use Rattle.std.proofs.Common.{ℕ, Bool, true, List, [], refl}
use Rattle.gql_base.specs.declared.lexical.token.TokenKind.{TokenKind}
use Rattle.gql_base.specs.declared.lexical.token.TokenKind.TheVariants.{Colon, Equals, At, OpenParen, CloseParen}
use Rattle.gql_base.specs.ways.Symbols.{punctuator, identifier, integer, decimal, string}
use Rattle.gql_base.specs.ways.Reading.{second, inside, some_second, exact, keyword, any_string}
use Rattle.gql_base.specs.ways.Grammar.{Nested, Single, Pair, Image, Optional, OneOrMore}
use Rattle.gql_base.specs.parts.Values.{named_value_of}
use Rattle.gql_base.specs.parts.Arguments.{IsArgument, AreArguments, IsDirective, AreDirectives, IsDefault}
use Rattle.gql_base.specs.parts.OperationKinds.{kind_word}
use Rattle.gql_base.proofs.WayLaws.SymbolTests.{IsPunctuator}
use Rattle.gql_base.proofs.WayLaws.CountedLevels.{Counted, IsFlat, TakesFlat, single_counted, mark_counted, name_counted, pair_counted, image_counted, optional_counted, repeated_counted, one_or_more_counted, value_counted}

-- words and strings

pub word_counted : {d : ℕ} (word : List ℕ) → Counted (Single (keyword word) d) d
word_counted word = single_counted (keyword word) flat
  where
    flat : TakesFlat (keyword word)
    flat (identifier bytes at) a e = λ d. (refl, refl)
    flat (punctuator kind) a e = cc
    flat (integer value) a e = cc
    flat (decimal bytes) a e = cc
    flat (string value) a e = cc

pub string_counted : {d : ℕ} → Counted (Single any_string d) d
string_counted = single_counted any_string flat
  where
    flat : TakesFlat any_string
    flat (string value) a e = λ d. (refl, refl)
    flat (identifier bytes at) a e = cc
    flat (punctuator kind) a e = cc
    flat (integer value) a e = cc
    flat (decimal bytes) a e = cc

pub kind_counted : {d : ℕ} → Counted (Single kind_word d) d
kind_counted = single_counted kind_word flat
  where
    flat : TakesFlat kind_word
    flat (identifier bytes at) a e = λ d. (refl, refl)
    flat (punctuator kind) a e = cc
    flat (integer value) a e = cc
    flat (decimal bytes) a e = cc
    flat (string value) a e = cc

-- one thing or more between two punctuators that open no level
pub between_counted : {A : Type 0} {S : A → Nested → Type 0} {d : ℕ} (open_kind close_kind : TokenKind) → IsPunctuator open_kind → IsPunctuator close_kind → IsFlat open_kind → IsFlat close_kind → Counted S d
    → Counted (Image inside (Pair (Single (exact open_kind) d) (Pair (OneOrMore S) (Single (exact close_kind) d)))) d
between_counted o c io ic fo fc s = image_counted inside (pair_counted (mark_counted o io fo) (pair_counted (one_or_more_counted s) (mark_counted c ic fc)))

-- things in parentheses
pub parens_counted : {A : Type 0} {S : A → Nested → Type 0} {d : ℕ} → Counted S d → Counted (Image inside (Pair (Single (exact OpenParen) d) (Pair (OneOrMore S) (Single (exact CloseParen) d)))) d
parens_counted s = between_counted OpenParen CloseParen tt tt (λ d. (refl, refl)) (λ d. (refl, refl)) s

-- arguments, directives and defaults

pub argument_counted : (c : Bool) (d : ℕ) → Counted (IsArgument c d) d
argument_counted c d = image_counted named_value_of (pair_counted name_counted (pair_counted (mark_counted Colon tt (λ d. (refl, refl))) (value_counted c d)))

pub maybe_arguments_counted : (c : Bool) (d : ℕ) → Counted (Optional [] (AreArguments c d)) d
maybe_arguments_counted c d = optional_counted [] (parens_counted (argument_counted c d))

pub directive_counted : (c : Bool) (d : ℕ) → Counted (IsDirective c d) d
directive_counted c d = image_counted second (pair_counted (mark_counted At tt (λ d. (refl, refl))) (pair_counted name_counted (maybe_arguments_counted c d)))

pub directives_counted : (c : Bool) (d : ℕ) → Counted (AreDirectives c d) d
directives_counted c d = repeated_counted (directive_counted c d)

pub default_counted : (d : ℕ) → Counted (IsDefault d) d
default_counted d = image_counted some_second (pair_counted (mark_counted Equals tt (λ d. (refl, refl))) (value_counted true d))
