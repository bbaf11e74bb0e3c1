-- Things are printed in the symbols that they are written with, without the offsets of names, for each of the ways of
-- which grammars are put together.
use Rattle.std.proofs.Common.{ℕ, ◌≡◌, inl, inr, List, [], ◌∷◌, ◌++◌, Some, refl, sym, ap, ◌∙◌, subst}
use Rattle.std.specs.List.{flat_map}
use Rattle.std.specs.Str.{bytes_eq}
use Rattle.std.proofs.lemmas.Slice.Eq.{bytes_eq-Decides}
use Rattle.gql_base.specs.declared.lexical.token.TokenKind.{TokenKind}
use Rattle.gql_base.specs.declared.lexical.token.TokenKind.TheVariants.{OpenParen, CloseParen}
use Rattle.gql_base.specs.ways.Symbols.{Symbol, punctuator, identifier, integer, decimal, string, Symbols}
use Rattle.gql_base.specs.ways.Reading.{Taking, inside, exact, any_name, keyword, listed}
use Rattle.gql_base.specs.ways.Grammar.{Nested, Single, Pair, Image, Optional, Repeated, OneOrMore}
use Rattle.gql_base.specs.printing.PrintedTrees.{printed_name, in_parentheses}
use Rattle.gql_base.specs.printing.PlacelessSymbols.{placeless_symbol}
use Rattle.gql_base.proofs.WayLaws.SymbolTests.{when_true, IsPunctuator, exact_is, name_is}
use Rattle.gql_base.proofs.PrintingLaws.PrintedSymbols.{bare, bare_append}

pub record Bare {A : Type 0} (S : A → Nested → Type 0) (symbols : A → Symbols) : Type 0 where
  pub says : (a : A) (ws : Nested) → S a ws → symbols a ≡ bare ws

pub joined_bare : {xs ys : Symbols} (f g ws : Nested) → xs ≡ bare f → ys ≡ bare g → ws ≡ f ++ g → xs ++ ys ≡ bare ws
joined_bare {xs = xs} {ys = ys} f g ws one other cut = ap (λ (l : Symbols). l ++ ys) one ∙ (ap (λ (l : Symbols). bare f ++ l) other ∙ (sym (bare_append f g) ∙ ap bare (sym cut)))

pub bare_single : {A : Type 0} {d : ℕ} (taking : Taking A) (symbol : A → Symbol) → ((w : Symbol) (a : A) → taking w ≡ Some a → symbol a ≡ placeless_symbol w) → Bare (Single taking d) (λ a. symbol a ∷ [])
bare_single taking symbol same = record { says = λ a ws is. ap (λ (w : Symbol). w ∷ []) (same is.0 a is.2) ∙ ap bare (sym is.1) }

pub bare_mark : {d : ℕ} (kind : TokenKind) → IsPunctuator kind → Bare (Single (exact kind) d) (λ a. punctuator kind ∷ [])
bare_mark kind is = bare_single (exact kind) (λ a. punctuator kind) (λ w a e. sym (ap placeless_symbol (exact_is kind w a is e)))

pub bare_name : {d : ℕ} → Bare (Single any_name d) (λ name. printed_name name.0 ∷ [])
bare_name = bare_single any_name (λ name. printed_name name.0) (λ w a e. sym (ap placeless_symbol (name_is w a e)))

pub bare_word : {d : ℕ} (bytes : List ℕ) → Bare (Single (keyword bytes) d) (λ a. printed_name bytes ∷ [])
bare_word bytes = bare_single (keyword bytes) (λ a. printed_name bytes) same
  where
    same : (w : Symbol) (a : Unit {0}) → keyword bytes w ≡ Some a → printed_name bytes ≡ placeless_symbol w
    same (punctuator kind) a e = cc
    same (identifier name at) a e = sym (ap printed_name ((bytes_eq-Decides name bytes).0 (when_true (bytes_eq name bytes) a e)))
    same (integer value) a e = cc
    same (decimal bytes) a e = cc
    same (string value) a e = cc

pub bare_pair : {A B : Type 0} {S : A → Nested → Type 0} {T : B → Nested → Type 0} {xs : A → Symbols} {ys : B → Symbols} → Bare S xs → Bare T ys → Bare (Pair S T) (λ p. xs p.0 ++ ys p.1)
bare_pair r q = record { says = λ p ws is. joined_bare is.0 is.1 ws (r.says p.0 is.0 is.3) (q.says p.1 is.1 is.4) is.2 }

pub bare_image : {A B : Type 0} {S : A → Nested → Type 0} {xs : A → Symbols} {ys : B → Symbols} (f : A → B) → Bare S xs → ((a : A) (ws : Nested) → S a ws → ys (f a) ≡ xs a) → Bare (Image f S) ys
bare_image {ys = ys} f r same = record { says = λ b ws is. ap ys is.1 ∙ (same is.0 ws is.2 ∙ r.says is.0 ws is.2) }

pub optional_bare : {A : Type 0} (S : A → Nested → Type 0) (xs : A → Symbols) (none : A) → xs none ≡ [] → (a : A) (ws : Nested) → (S a ws → xs a ≡ bare ws) → Optional none S a ws → xs a ≡ bare ws
optional_bare S xs none nothing a ws r (inl is) = r is
optional_bare S xs none nothing a ws r (inr is) = ap xs is.0 ∙ (nothing ∙ ap bare (sym is.1))

pub bare_optional : {A : Type 0} {S : A → Nested → Type 0} {xs : A → Symbols} (none : A) → Bare S xs → xs none ≡ [] → Bare (Optional none S) xs
bare_optional {S = S} {xs = xs} none r nothing = record { says = λ a ws is. optional_bare S xs none nothing a ws (r.says a ws) is }

all_bare : {A : Type 0} {S : A → Nested → Type 0} {xs : A → Symbols} → Bare S xs → (all : List A) (ws : Nested) → Repeated S all ws → flat_map xs all ≡ bare ws
all_bare r [] ws are = ap bare (sym are)
all_bare r (a ∷ others) ws are = joined_bare are.0 are.1 ws (r.says a are.0 are.3) (all_bare r others are.1 are.4) are.2

pub bare_repeated : {A : Type 0} {S : A → Nested → Type 0} {xs : A → Symbols} → Bare S xs → Bare (Repeated S) (flat_map xs)
bare_repeated r = record { says = all_bare r }

pub bare_one_or_more : {A : Type 0} {S : A → Nested → Type 0} {xs : A → Symbols} → Bare S xs → Bare (OneOrMore S) (flat_map xs)
bare_one_or_more r = bare_image listed (bare_pair r (bare_repeated r)) (λ p ws is. refl)

in_some_parentheses : {A : Type 0} (xs : A → Symbols) (all : List A) (p : A × List A) → all ≡ listed p → in_parentheses xs all ≡ punctuator OpenParen ∷ (flat_map xs all ++ (punctuator CloseParen ∷ []))
in_some_parentheses xs all p e = subst (λ l. in_parentheses xs l ≡ punctuator OpenParen ∷ (flat_map xs l ++ (punctuator CloseParen ∷ []))) (sym e) refl

pub bare_parentheses : {A : Type 0} {d : ℕ} {S : A → Nested → Type 0} {xs : A → Symbols} → Bare S xs
    → Bare (Image inside (Pair (Single (exact OpenParen) d) (Pair (OneOrMore S) (Single (exact CloseParen) d)))) (in_parentheses xs)
bare_parentheses {xs = xs} r = bare_image inside (bare_pair (bare_mark OpenParen tt) (bare_pair (bare_one_or_more r) (bare_mark CloseParen tt))) (λ p ws is. in_some_parentheses xs p.1.0 is.4.3.0 is.4.3.1)
