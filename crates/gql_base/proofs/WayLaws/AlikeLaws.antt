-- What is written with certain symbols is written with the same symbols at other offsets too, but for the offsets that
-- it holds itself: for each of the ways of which grammars are put together.
use Rattle.std.proofs.Common.{ℕ, suc, ◌≡◌, inl, inr, List, [], ◌∷◌, ◌++◌, Option, None, Some, refl, sym, ap, ◌∙◌, subst}
use Rattle.std.specs.Prelude.{map}
use Rattle.std.specs.Option.{option_map}
use Rattle.std.proofs.lemmas.Option.{same_Some}
use Rattle.gql_base.specs.declared.lexical.token.TokenKind.{TokenKind}
use Rattle.gql_base.specs.ways.Symbols.{Symbol, punctuator, identifier, integer, decimal, string}
use Rattle.gql_base.specs.ways.Reading.{Taking, exact, any_name, listed, second}
use Rattle.gql_base.specs.ways.Grammar.{Nested, Single, Pair, Image, Choice, Empty, Optional, Repeated, OneOrMore, Level, Bracketed}
use Rattle.gql_base.specs.printing.PlacelessSymbols.{placeless_symbol, name_placeless}
use Rattle.gql_base.specs.printing.Alike.{AreAlike}
use Rattle.gql_base.proofs.WayLaws.AlikeSymbols.{none_alike, split_alike, one_alike, punctuator_alike}

-- Symbols that are alike to those of a thing are those of a thing too, and f, which drops offsets, makes both the same.
pub record Alike {A : Type 0} (S : A → Nested → Type 0) (f : A → A) : Type 0 where
  pub again : (a : A) (ws vs : Nested) → S a ws → AreAlike ws vs → (b : A) × S b vs × (f b ≡ f a)

-- what has no offset
abbrev pub whole : {A : Type 0} → A → A
whole a = a

abbrev pub both : {A B : Type 0} → (A → A) → (B → B) → A × B → A × B
both f g p = (f p.0, g p.1)

-- one symbol

was_some : {A : Type 0} (f : A → A) (o : Option A) (c : A) → option_map f o ≡ Some c → (b : A) × (o ≡ Some b) × (f b ≡ c)
was_some f None c e = cc
was_some f (Some b) c e = (b, refl, same_Some (f b) c e)

-- a symbol without its offset is taken for the thing without its offset
abbrev pub TakesPlaceless : {A : Type 0} → Taking A → (A → A) → Type 0
TakesPlaceless taking f = (w : Symbol) → option_map f (taking w) ≡ taking (placeless_symbol w)

pub taken_alike : {A : Type 0} (taking : Taking A) (f : A → A) → TakesPlaceless taking f → (w v : Symbol) (a : A) → placeless_symbol w ≡ placeless_symbol v → taking w ≡ Some a → (b : A) × (taking v ≡ Some b) × (f b ≡ f a)
taken_alike taking f h w v a e is = was_some f (taking v) (f a) (h v ∙ (ap taking (sym e) ∙ (sym (h w) ∙ ap (option_map f) is)))

pub single_alike : {A : Type 0} {d : ℕ} (taking : Taking A) (f : A → A) → TakesPlaceless taking f → Alike (Single taking d) f
single_alike {d = d} taking f h = record {
  again = λ a ws vs is alike.
      let v = one_alike is.0 d vs (subst (λ (l : Nested). AreAlike l vs) is.1 alike) in
      let b = taken_alike taking f h is.0 v.0 a v.2 is.2 in
      (b.0, (v.0, v.1, b.1), b.2);
}

pub whole_option : {A : Type 0} (o : Option A) → option_map whole o ≡ o
whole_option None = refl
whole_option (Some a) = refl

pub mark_alike : {d : ℕ} (kind : TokenKind) → Alike (Single (exact kind) d) whole
mark_alike kind = single_alike (exact kind) whole same
  where
    same : TakesPlaceless (exact kind) whole
    same (punctuator other) = whole_option _
    same (identifier bytes at) = whole_option _
    same (integer value) = whole_option _
    same (decimal bytes) = whole_option _
    same (string value) = whole_option _

pub name_alike : {d : ℕ} → Alike (Single any_name d) name_placeless
name_alike = single_alike any_name name_placeless same
  where
    same : TakesPlaceless any_name name_placeless
    same (punctuator kind) = refl
    same (identifier bytes at) = refl
    same (integer value) = refl
    same (decimal bytes) = refl
    same (string value) = refl

-- one thing and then another

pub pair_alike : {A B : Type 0} {S : A → Nested → Type 0} {T : B → Nested → Type 0} {f : A → A} {g : B → B} → Alike S f → Alike T g → Alike (Pair S T) (both f g)
pair_alike l m = record {
  again = λ p ws vs is alike.
      let cut = split_alike is.0 is.1 vs (subst (λ (k : Nested). AreAlike k vs) is.2 alike) in
      let a = l.again p.0 is.0 cut.0 is.3 cut.3 in
      let b = m.again p.1 is.1 cut.1 is.4 cut.4 in
      ((a.0, b.0), (cut.0, cut.1, cut.2, a.1, b.1), cc (a.2, b.2));
}

-- what a function makes of a thing, if offsets may be dropped before or after

pub image_alike : {A B : Type 0} {S : A → Nested → Type 0} {f : A → A} {g : B → B} (h : A → B) → Alike S f → ((a : A) → g (h a) ≡ h (f a)) → Alike (Image h S) g
image_alike {g = g} h l goes = record {
  again = λ b ws vs is alike.
      let a = l.again is.0 ws vs is.2 alike in
      (h a.0, (a.0, refl, a.1), goes a.0 ∙ (ap h a.2 ∙ (sym (goes is.0) ∙ ap g (sym is.1))));
}

-- one of two things

pub choice_alike : {A : Type 0} {S T : A → Nested → Type 0} {f : A → A} → Alike S f → Alike T f → Alike (Choice S T) f
choice_alike l m = record {
  again = λ a ws vs is alike. elim is [
    | inl one ↦ let b = l.again a ws vs one alike in (b.0, inl b.1, b.2)
    | inr other ↦ let b = m.again a ws vs other alike in (b.0, inr b.1, b.2)
  ];
}

-- no symbol

pub empty_alike : {A : Type 0} {f : A → A} (none : A) → Alike (Empty none) f
empty_alike none = record { again = λ a ws vs is alike. (a, (is.0, none_alike vs (subst (λ (l : Nested). AreAlike l vs) is.1 alike)), refl) }

pub optional_alike : {A : Type 0} {S : A → Nested → Type 0} {f : A → A} (none : A) → Alike S f → Alike (Optional none S) f
optional_alike none l = choice_alike l (empty_alike none)

-- things, one after the other

each_again : {A : Type 0} (S : A → Nested → Type 0) (f : A → A) → Alike S f → (l : List A) (ws vs : Nested) → Repeated S l ws → AreAlike ws vs → (k : List A) × Repeated S k vs × (map f k ≡ map f l)
each_again S f s [] ws vs are alike = ([], none_alike vs (subst (λ (l : Nested). AreAlike l vs) are alike), refl)
each_again S f s (a ∷ l) ws vs are alike =
    let cut = split_alike are.0 are.1 vs (subst (λ (k : Nested). AreAlike k vs) are.2 alike) in
    let b = s.again a are.0 cut.0 are.3 cut.3 in
    let k = each_again S f s l are.1 cut.1 are.4 cut.4 in
    (b.0 ∷ k.0, (cut.0, cut.1, cut.2, b.1, k.1), cc (b.2, k.2))

pub repeated_alike : {A : Type 0} {S : A → Nested → Type 0} {f : A → A} → Alike S f → Alike (Repeated S) (map f)
repeated_alike {S = S} {f = f} s = record { again = each_again S f s }

pub one_or_more_alike : {A : Type 0} {S : A → Nested → Type 0} {f : A → A} → Alike S f → Alike (OneOrMore S) (map f)
one_or_more_alike s = image_alike listed (pair_alike s (repeated_alike s)) (λ p. refl)

-- levels

pub level_alike : {A B : Type 0} {T : B → Nested → Type 0} {d : ℕ} {f : A → A} {g : B → B} (taking : Taking A) → Alike (Single taking (suc d)) f → Alike T g → Alike (Level taking d T) g
level_alike taking s t = image_alike second (pair_alike s t) (λ p. refl)

-- what stands between brackets
pub bracketed_alike : {A : Type 0} {f : A → A} (open_kind close_kind : TokenKind) (d : ℕ) (P : A → Nested → Type 0) (a : A) (ws vs : Nested) → Bracketed open_kind close_kind d (P a) ws → AreAlike ws vs
    → ((inner others : Nested) → P a inner → AreAlike inner others → (b : A) × P b others × (f b ≡ f a)) → (b : A) × Bracketed open_kind close_kind d (P b) vs × (f b ≡ f a)
bracketed_alike o c d P a ws vs is alike inside =
    let close : Nested = (punctuator c, suc d) ∷ [] in
    let first = punctuator_alike o (suc d) (is.0 ++ close) vs (subst (λ (l : Nested). AreAlike l vs) is.1 alike) in
    let cut = split_alike is.0 close first.0 first.2 in
    let last = punctuator_alike c (suc d) [] cut.1 cut.4 in
    let ends : cut.1 ≡ close = last.1 ∙ ap (λ (l : Nested). (punctuator c, suc d) ∷ l) (none_alike last.0 last.2) in
    let b = inside is.0 cut.0 is.2 cut.3 in
    (b.0, (cut.0, first.1 ∙ ap (λ (l : Nested). (punctuator o, suc d) ∷ l) (cut.2 ∙ ap (λ (l : Nested). cut.0 ++ l) ends), b.1), b.2)
