-- The nestings of the symbols of a thing are those that counting brackets gives: for each of the ways of which grammars
-- are put together, for values and for types.
use Rattle.std.proofs.Common.{ℕ, zero, suc, ◌≡◌, inl, inr, Bool, List, [], ◌∷◌, ◌++◌, Some, refl, sym, ap, ◌∙◌, subst, append_assoc}
use Rattle.gql_base.specs.declared.lexical.token.TokenKind.{TokenKind}
use Rattle.gql_base.specs.declared.lexical.token.TokenKind.TheVariants.{Bang, Dollar, Colon, OpenBracket, CloseBracket, OpenBrace, CloseBrace}
use Rattle.gql_base.specs.ways.Symbols.{Symbol, punctuator, identifier, integer, decimal, string, Symbols, kind_of}
use Rattle.gql_base.specs.ways.Reading.{Taking, exact, any_name, listed}
use Rattle.gql_base.specs.ways.Grammar.{Nested, plain, Single, Pair, Image, Choice, Empty, Optional, Repeated, OneOrMore, Bracketed}
use Rattle.gql_base.specs.parts.Values.{ValueTree, variable_value, integer_value, float_value, string_value, boolean_value, null_value, enum_value, list_value, object_value, ValueTrees, no_value, value_then, FieldTrees, no_field, field_then, literal, IsValue, AreValues, AreFields}
use Rattle.gql_base.specs.parts.TypeReferences.{TypeTree, named_type, list_type, non_null_type, IsType}
use Rattle.gql_base.proofs.WayLaws.ReadingLaws.{regroup}
use Rattle.gql_base.proofs.WayLaws.SymbolTests.{IsPunctuator, exact_is}

-- the nesting of a symbol of this kind where so many levels are open
abbrev pub nesting : ℕ → TokenKind → ℕ
nesting d OpenBracket = suc d
nesting d OpenBrace = suc d
nesting d kind = d

abbrev pub outer : ℕ → ℕ
outer zero = zero
outer (suc d) = d

-- the number of levels that are open after it
abbrev pub levels_after : ℕ → TokenKind → ℕ
levels_after d CloseBracket = outer d
levels_after d CloseBrace = outer d
levels_after d kind = nesting d kind

-- symbols with their nestings, by counting brackets, where so many levels are open before
unfoldable pub nested : ℕ → Symbols → Nested
nested d [] = []
nested d (w ∷ ws) = (w, nesting d (kind_of w)) ∷ nested (levels_after d (kind_of w)) ws

-- Counting gives the nestings of these symbols, whatever comes after, and as many levels are open after them as before.
abbrev pub Counts : ℕ → Nested → Type 0
Counts d ws = (rest : Symbols) → nested d (plain ws ++ rest) ≡ ws ++ nested d rest

-- so for the symbols of each thing
pub record Counted {A : Type 0} (S : A → Nested → Type 0) (d : ℕ) : Type 0 where
  pub counts : (a : A) (ws : Nested) → S a ws → Counts d ws

-- symbols after symbols

none_counts : (d : ℕ) → Counts d []
none_counts d = λ rest. refl

pub joined_counts : (d : ℕ) (f g ws : Nested) → Counts d f → Counts d g → ws ≡ f ++ g → Counts d ws
joined_counts d f g ws a b is = subst (Counts d) (sym is) (λ rest. ap (nested d) (regroup f g rest) ∙ (a (plain g ++ rest) ∙ (ap (λ (l : Nested). f ++ l) (b rest) ∙ sym (append_assoc f g (nested d rest)))))

-- one symbol

-- it neither opens nor closes a level
abbrev pub IsFlat : TokenKind → Type 0
IsFlat kind = (d : ℕ) → (nesting d kind ≡ d) × (levels_after d kind ≡ d)

pub one_counts : (d : ℕ) (w : Symbol) → IsFlat (kind_of w) → Counts d ((w, d) ∷ [])
unfolding nested
one_counts d w h = λ rest. ap (λ (k : ℕ). (w, k) ∷ nested (levels_after d (kind_of w)) rest) (h d).0 ∙ ap (λ (k : ℕ). (w, d) ∷ nested k rest) (h d).1

abbrev pub TakesFlat : {A : Type 0} → Taking A → Type 0
TakesFlat taking = (w : Symbol) (a : _) → taking w ≡ Some a → IsFlat (kind_of w)

pub single_counted : {A : Type 0} {d : ℕ} (taking : Taking A) → TakesFlat taking → Counted (Single taking d) d
single_counted {d = d} taking h = record { counts = λ a ws is. subst (Counts d) (sym is.1) (one_counts d is.0 (h is.0 a is.2)) }

pub mark_counted : {d : ℕ} (kind : TokenKind) → IsPunctuator kind → IsFlat kind → Counted (Single (exact kind) d) d
mark_counted kind is flat = single_counted (exact kind) (λ w a e. subst IsFlat (sym (ap kind_of (exact_is kind w a is e))) flat)

pub name_counted : {d : ℕ} → Counted (Single any_name d) d
name_counted = single_counted any_name flat
  where
    flat : TakesFlat any_name
    flat (identifier bytes at) a e = λ d. (refl, refl)
    flat (punctuator kind) a e = cc
    flat (integer value) a e = cc
    flat (decimal bytes) a e = cc
    flat (string value) a e = cc

-- the other ways

pub pair_counted : {A B : Type 0} {S : A → Nested → Type 0} {T : B → Nested → Type 0} {d : ℕ} → Counted S d → Counted T d → Counted (Pair S T) d
pair_counted {d = d} l m = record { counts = λ p ws is. joined_counts d is.0 is.1 ws (l.counts p.0 is.0 is.3) (m.counts p.1 is.1 is.4) is.2 }

pub image_counted : {A B : Type 0} {S : A → Nested → Type 0} {d : ℕ} (f : A → B) → Counted S d → Counted (Image f S) d
image_counted f l = record { counts = λ b ws is. l.counts is.0 ws is.2 }

pub choice_counted : {A : Type 0} {S T : A → Nested → Type 0} {d : ℕ} → Counted S d → Counted T d → Counted (Choice S T) d
choice_counted l m = record { counts = λ a ws is. elim is [ inl one ↦ l.counts a ws one | inr other ↦ m.counts a ws other ] }

pub empty_counted : {A : Type 0} {d : ℕ} (none : A) → Counted (Empty none) d
empty_counted {d = d} none = record { counts = λ a ws is. subst (Counts d) (sym is.1) (none_counts d) }

pub optional_counted : {A : Type 0} {S : A → Nested → Type 0} {d : ℕ} (none : A) → Counted S d → Counted (Optional none S) d
optional_counted none l = choice_counted l (empty_counted none)

each_counts : {A : Type 0} (S : A → Nested → Type 0) (d : ℕ) → Counted S d → (l : List A) (ws : Nested) → Repeated S l ws → Counts d ws
each_counts S d s [] ws are = subst (Counts d) (sym are) (none_counts d)
each_counts S d s (a ∷ l) ws are = joined_counts d are.0 are.1 ws (s.counts a are.0 are.3) (each_counts S d s l are.1 are.4) are.2

pub repeated_counted : {A : Type 0} {S : A → Nested → Type 0} {d : ℕ} → Counted S d → Counted (Repeated S) d
repeated_counted {S = S} {d = d} s = record { counts = each_counts S d s }

pub one_or_more_counted : {A : Type 0} {S : A → Nested → Type 0} {d : ℕ} → Counted S d → Counted (OneOrMore S) d
one_or_more_counted s = image_counted listed (pair_counted s (repeated_counted s))

-- levels

abbrev pub Opens : TokenKind → Type 0
Opens kind = (d : ℕ) → (nesting d kind ≡ suc d) × (levels_after d kind ≡ suc d)

abbrev pub Closes : TokenKind → Type 0
Closes kind = (d : ℕ) → (nesting (suc d) kind ≡ suc d) × (levels_after (suc d) kind ≡ d)

-- what stands between brackets
pub bracketed_counts : (open_kind close_kind : TokenKind) (d : ℕ) (P : Nested → Type 0) (ws : Nested) → Opens open_kind → Closes close_kind → Bracketed open_kind close_kind d P ws → ((inner : Nested) → P inner → Counts (suc d) inner) → Counts d ws
unfolding nested
bracketed_counts o c d P ws opens closes is inside =
    let close : Nested = (punctuator c, suc d) ∷ [] in
    subst (Counts d) (sym is.1) (λ rest.
    let last : nested (suc d) (punctuator c ∷ rest) ≡ (punctuator c, suc d) ∷ nested d rest = ap (λ (k : ℕ). (punctuator c, k) ∷ nested (levels_after (suc d) c) rest) (closes d).0 ∙ ap (λ (k : ℕ). (punctuator c, suc d) ∷ nested k rest) (closes d).1 in
    let within : nested (suc d) (plain (is.0 ++ close) ++ rest) ≡ (is.0 ++ close) ++ nested d rest = ap (nested (suc d)) (regroup is.0 close rest) ∙ (inside is.0 is.2 (punctuator c ∷ rest) ∙ (ap (λ (l : Nested). is.0 ++ l) last ∙ sym (append_assoc is.0 close (nested d rest)))) in
    ap (λ (k : ℕ). (punctuator o, k) ∷ nested (levels_after d o) (plain (is.0 ++ close) ++ rest)) (opens d).0
    ∙ (ap (λ (k : ℕ). (punctuator o, suc d) ∷ nested k (plain (is.0 ++ close) ++ rest)) (opens d).1 ∙ ap (λ (l : Nested). (punctuator o, suc d) ∷ l) within))

-- values

literal_flat : (w : Symbol) (t : ValueTree) → literal w ≡ Some t → IsFlat (kind_of w)
literal_flat (punctuator kind) t e = cc
literal_flat (identifier bytes at) t e = λ d. (refl, refl)
literal_flat (integer value) t e = λ d. (refl, refl)
literal_flat (decimal bytes) t e = λ d. (refl, refl)
literal_flat (string value) t e = λ d. (refl, refl)

leaf_counts : (d : ℕ) (t : ValueTree) (ws : Nested) → Single literal d t ws → Counts d ws
leaf_counts d t ws is = (single_counted literal literal_flat).counts t ws is

mutual
  unfolding IsValue

  value_counts : (c : Bool) (d : ℕ) (t : ValueTree) (ws : Nested) → IsValue c d t ws → Counts d ws
  value_counts c d (variable_value name at) ws is = joined_counts d ((punctuator Dollar, d) ∷ []) ((identifier name at, d) ∷ []) ws (one_counts d (punctuator Dollar) (λ d. (refl, refl))) (one_counts d (identifier name at) (λ d. (refl, refl))) is.1
  value_counts c d (integer_value v) ws is = leaf_counts d (integer_value v) ws is
  value_counts c d (float_value bytes) ws is = leaf_counts d (float_value bytes) ws is
  value_counts c d (string_value v) ws is = leaf_counts d (string_value v) ws is
  value_counts c d (boolean_value b) ws is = leaf_counts d (boolean_value b) ws is
  value_counts c d null_value ws is = leaf_counts d null_value ws is
  value_counts c d (enum_value name at) ws is = leaf_counts d (enum_value name at) ws is
  value_counts c d (list_value values) ws is = bracketed_counts OpenBracket CloseBracket d (AreValues c (suc d) values) ws (λ d. (refl, refl)) (λ d. (refl, refl)) is (λ inner are. values_count c (suc d) values inner are)
  value_counts c d (object_value fields) ws is = bracketed_counts OpenBrace CloseBrace d (AreFields c (suc d) fields) ws (λ d. (refl, refl)) (λ d. (refl, refl)) is (λ inner are. fields_count c (suc d) fields inner are)

  values_count : (c : Bool) (d : ℕ) (ts : ValueTrees) (ws : Nested) → AreValues c d ts ws → Counts d ws
  values_count c d no_value ws are = subst (Counts d) (sym are) (none_counts d)
  values_count c d (value_then t ts) ws are = joined_counts d are.0 are.1 ws (value_counts c d t are.0 are.3) (values_count c d ts are.1 are.4) are.2

  fields_count : (c : Bool) (d : ℕ) (fs : FieldTrees) (ws : Nested) → AreFields c d fs ws → Counts d ws
  fields_count c d no_field ws are = subst (Counts d) (sym are) (none_counts d)
  fields_count c d (field_then name at t fs) ws are =
      let value : Counts d ((punctuator Colon, d) ∷ are.0) = joined_counts d ((punctuator Colon, d) ∷ []) are.0 ((punctuator Colon, d) ∷ are.0) (one_counts d (punctuator Colon) (λ d. (refl, refl))) (value_counts c d t are.0 are.3) refl in
      let field : Counts d ((identifier name at, d) ∷ (punctuator Colon, d) ∷ are.0) = joined_counts d ((identifier name at, d) ∷ []) ((punctuator Colon, d) ∷ are.0) ((identifier name at, d) ∷ (punctuator Colon, d) ∷ are.0) (one_counts d (identifier name at) (λ d. (refl, refl))) value refl in
      joined_counts d ((identifier name at, d) ∷ (punctuator Colon, d) ∷ are.0) are.1 ws field (fields_count c d fs are.1 are.4) are.2

pub value_counted : (c : Bool) (d : ℕ) → Counted (IsValue c d) d
value_counted c d = record { counts = value_counts c d }

-- types

type_counts : (d : ℕ) (t : TypeTree) (ws : Nested) → IsType d t ws → Counts d ws
unfolding IsType
type_counts d (named_type name at) ws is = subst (Counts d) (sym is) (one_counts d (identifier name at) (λ d. (refl, refl)))
type_counts d (list_type t) ws is = bracketed_counts OpenBracket CloseBracket d (IsType (suc d) t) ws (λ d. (refl, refl)) (λ d. (refl, refl)) is (λ inner of. type_counts (suc d) t inner of)
type_counts d (non_null_type t) ws is = joined_counts d is.1 ((punctuator Bang, d) ∷ []) ws (type_counts d t is.1 is.3) (one_counts d (punctuator Bang) (λ d. (refl, refl))) is.2

pub type_counted : (d : ℕ) → Counted (IsType d) d
type_counted d = record { counts = type_counts d }
