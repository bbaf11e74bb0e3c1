-- What is printed of things is written as the same things without offsets, for each of the ways of which grammars are
-- put together.
use Rattle.std.proofs.Common.{ℕ, ◌≡◌, inl, inr, List, [], ◌∷◌, ◌++◌, map, Some, refl, sym, ap, ◌∙◌, subst}
use Rattle.std.specs.List.{flat_map}
use Rattle.gql_base.specs.declared.lexical.token.TokenKind.{TokenKind}
use Rattle.gql_base.specs.declared.lexical.token.TokenKind.TheVariants.{OpenParen, CloseParen}
use Rattle.gql_base.specs.ways.Symbols.{Symbol, punctuator, Symbols}
use Rattle.gql_base.specs.ways.Reading.{Taking, inside, exact, listed}
use Rattle.gql_base.specs.ways.Grammar.{Nested, plain, Within, Single, Pair, Image, Optional, Repeated, OneOrMore}
use Rattle.gql_base.proofs.WayLaws.ReadingLaws.{plain_append, within_append, within_front, within_back}
use Rattle.gql_base.proofs.WayLaws.SymbolTests.{exact_itself}
use Rattle.gql_base.proofs.PrintingLaws.PrintedLaws.{Rewritten}
use Rattle.gql_base.specs.printing.PrintedTrees.{in_parentheses}

-- Each thing that is written is printed in these symbols, which are written as what f makes of the thing.
pub record Rewrites {A : Type 0} (n : ℕ) (S : A → Nested → Type 0) (f : A → A) (symbols : A → Symbols) : Type 0 where
  pub says : (a : A) (ws : Nested) → S a ws → Within n ws → Rewritten n (S (f a)) (symbols a)

abbrev pub Joined : (Nested → Type 0) → (Nested → Type 0) → Nested → Type 0
Joined P Q ws = (f g : Nested) × (ws ≡ f ++ g) × P f × Q g

pub joined_rewritten : {n : ℕ} {P Q : Nested → Type 0} {xs ys : Symbols} → Rewritten n P xs → Rewritten n Q ys → Rewritten n (Joined P Q) (xs ++ ys)
joined_rewritten {n = n} {xs = xs} r q = record {
  front = r.front ++ q.front;
  same = plain_append r.front q.front ∙ (ap (λ (l : Symbols). l ++ plain q.front) r.same ∙ ap (λ (l : Symbols). xs ++ l) q.same);
  within = within_append n r.front q.front r.within q.within;
  written = (r.front, q.front, refl, r.written, q.written);
}

pub three_parts : {P Q R : Nested → Type 0} (ws : Nested) → Joined P (Joined Q R) ws → (e f g : Nested) × (ws ≡ e ++ (f ++ g)) × P e × Q f × R g
three_parts ws w = (w.0, w.4.0, w.4.1, w.2 ∙ ap (λ (l : Nested). w.0 ++ l) w.4.2, w.3, w.4.3, w.4.4)

pub same_symbols : {n : ℕ} {P : Nested → Type 0} {xs ys : Symbols} → Rewritten n P xs → xs ≡ ys → Rewritten n P ys
same_symbols r e = record { front = r.front; same = r.same ∙ e; within = r.within; written = r.written }

pub rewrites_single : {A : Type 0} {n d : ℕ} {f : A → A} (taking : Taking A) (symbol : A → Symbol) → ((w : Symbol) (a : A) → taking w ≡ Some a → taking (symbol a) ≡ Some (f a)) → Rewrites n (Single taking d) f (λ a. symbol a ∷ [])
rewrites_single {n = n} {d = d} taking symbol again = record {
  says = λ a ws is b. let h : Within n ((is.0, d) ∷ []) = subst (Within n) is.1 b in
      record { front = (symbol a, d) ∷ []; same = refl; within = (h.0, tt); written = (symbol a, refl, again is.0 a is.2) };
}

pub rewrites_mark : {n d : ℕ} (kind : TokenKind) → Rewrites n (Single (exact kind) d) (λ a. a) (λ a. punctuator kind ∷ [])
rewrites_mark kind = rewrites_single (exact kind) (λ a. punctuator kind) (λ w a e. exact_itself kind)

pub rewrites_pair : {A B : Type 0} {n : ℕ} {S : A → Nested → Type 0} {T : B → Nested → Type 0} {f : A → A} {g : B → B} {xs : A → Symbols} {ys : B → Symbols}
    → Rewrites n S f xs → Rewrites n T g ys → Rewrites n (Pair S T) (λ p. (f p.0, g p.1)) (λ p. xs p.0 ++ ys p.1)
rewrites_pair {n = n} r q = record {
  says = λ p ws is b. let h : Within n (is.0 ++ is.1) = subst (Within n) is.2 b in
      joined_rewritten (r.says p.0 is.0 is.3 (within_front n is.0 is.1 h)) (q.says p.1 is.1 is.4 (within_back n is.0 is.1 h));
}

pub rewrites_image : {A B : Type 0} {n : ℕ} {S : A → Nested → Type 0} {f : A → A} {g : B → B} {xs : A → Symbols} {ys : B → Symbols} (h : A → B)
    → Rewrites n S f xs → ((a : A) → g (h a) ≡ h (f a)) → ((a : A) (ws : Nested) → S a ws → xs a ≡ ys (h a)) → Rewrites n (Image h S) g ys
rewrites_image {f = f} {g = g} {ys = ys} h r back same = record {
  says = λ b ws is w. let q = r.says is.0 ws is.2 w in
      record { front = q.front; same = q.same ∙ (same is.0 ws is.2 ∙ ap ys (sym is.1)); within = q.within; written = (f is.0, ap g is.1 ∙ back is.0, q.written) };
}

pub optional_rewritten : {A : Type 0} {n : ℕ} (S : A → Nested → Type 0) (f : A → A) (xs : A → Symbols) (none : A) → f none ≡ none → xs none ≡ [] → (a : A) (ws : Nested) → (S a ws → Rewritten n (S (f a)) (xs a)) → Optional none S a ws → Rewritten n (Optional none S (f a)) (xs a)
optional_rewritten S f xs none back nothing a ws r (inl is) = let q = r is in record { front = q.front; same = q.same; within = q.within; written = inl q.written }
optional_rewritten S f xs none back nothing a ws r (inr is) = record { front = []; same = sym (ap xs is.0 ∙ nothing); within = tt; written = inr (ap f is.0 ∙ back, refl) }

pub rewrites_optional : {A : Type 0} {n : ℕ} {S : A → Nested → Type 0} {f : A → A} {xs : A → Symbols} (none : A) → Rewrites n S f xs → f none ≡ none → xs none ≡ [] → Rewrites n (Optional none S) f xs
rewrites_optional {S = S} {f = f} {xs = xs} none r back nothing = record { says = λ a ws is b. optional_rewritten S f xs none back nothing a ws (λ w. r.says a ws w b) is }

all_rewritten : {A : Type 0} {n : ℕ} {S : A → Nested → Type 0} {f : A → A} {xs : A → Symbols} → Rewrites n S f xs → (all : List A) (ws : Nested) → Repeated S all ws → Within n ws → Rewritten n (Repeated S (map f all)) (flat_map xs all)
all_rewritten r [] ws are b = record { front = []; same = refl; within = tt; written = refl }
all_rewritten {n = n} r (a ∷ others) ws are b = let h : Within n (are.0 ++ are.1) = subst (Within n) are.2 b in
    joined_rewritten (r.says a are.0 are.3 (within_front n are.0 are.1 h)) (all_rewritten r others are.1 are.4 (within_back n are.0 are.1 h))

pub rewrites_repeated : {A : Type 0} {n : ℕ} {S : A → Nested → Type 0} {f : A → A} {xs : A → Symbols} → Rewrites n S f xs → Rewrites n (Repeated S) (map f) (flat_map xs)
rewrites_repeated r = record { says = all_rewritten r }

pub rewrites_one_or_more : {A : Type 0} {n : ℕ} {S : A → Nested → Type 0} {f : A → A} {xs : A → Symbols} → Rewrites n S f xs → Rewrites n (OneOrMore S) (map f) (flat_map xs)
rewrites_one_or_more r = rewrites_image listed (rewrites_pair r (rewrites_repeated r)) (λ p. refl) (λ p ws is. refl)

in_some_parentheses : {A : Type 0} (xs : A → Symbols) (all : List A) (p : A × List A) → all ≡ listed p → punctuator OpenParen ∷ (flat_map xs all ++ (punctuator CloseParen ∷ [])) ≡ in_parentheses xs all
in_some_parentheses xs all p e = subst (λ l. punctuator OpenParen ∷ (flat_map xs l ++ (punctuator CloseParen ∷ [])) ≡ in_parentheses xs l) (sym e) refl

pub rewrites_parentheses : {A : Type 0} {n d : ℕ} {S : A → Nested → Type 0} {f : A → A} {xs : A → Symbols} → Rewrites n S f xs
    → Rewrites n (Image inside (Pair (Single (exact OpenParen) d) (Pair (OneOrMore S) (Single (exact CloseParen) d)))) (map f) (in_parentheses xs)
rewrites_parentheses {xs = xs} r = rewrites_image inside (rewrites_pair (rewrites_mark OpenParen) (rewrites_pair (rewrites_one_or_more r) (rewrites_mark CloseParen)))
    (λ p. refl) (λ p ws is. in_some_parentheses xs p.1.0 is.4.3.0 is.4.3.1)
