-- The nestings of the symbols of a schema text are told by its symbols alone. A square bracket opens a level. A brace
-- opens one inside of another level, and after a colon or an equals sign, where a value begins; any other brace holds
-- the fields or values of a definition.
use Rattle.std.proofs.Common.{ℕ, zero, suc, ◌≡◌, inl, inr, Bool, true, false, List, [], ◌∷◌, ◌++◌, Some, refl, sym, ap, ◌∙◌, subst, append_assoc, append-nil}
use Rattle.gql_base.specs.declared.lexical.token.TokenKind.{TokenKind}
use Rattle.gql_base.specs.declared.lexical.token.TokenKind.TheVariants.{Bang, Dollar, Colon, Equals, At, OpenParen, CloseParen, OpenBracket, CloseBracket, OpenBrace, CloseBrace}
use Rattle.gql_base.specs.ways.Symbols.{Symbol, punctuator, identifier, integer, decimal, string, Symbols, kind_of}
use Rattle.gql_base.specs.ways.Reading.{Taking, exact, any_name, any_string, keyword, second, inside, some_second, listed}
use Rattle.gql_base.specs.ways.Grammar.{Nested, plain, Single, Pair, Image, Choice, Optional, Repeated, OneOrMore, Bracketed}
use Rattle.gql_base.specs.parts.Values.{ValueTree, variable_value, integer_value, float_value, string_value, boolean_value, null_value, enum_value, list_value, object_value, ValueTrees, no_value, value_then, FieldTrees, no_field, field_then, literal, named_value_of, IsValue, AreValues, AreFields}
use Rattle.gql_base.specs.parts.TypeReferences.{TypeTree, named_type, list_type, non_null_type, IsType}
use Rattle.gql_base.specs.parts.Arguments.{IsArgument, AreArguments, AreDirectives, IsDefault}
use Rattle.gql_base.proofs.WayLaws.ReadingLaws.{regroup}
use Rattle.gql_base.proofs.WayLaws.AlikeSymbols.{first_same}
use Rattle.gql_base.proofs.WayLaws.SymbolTests.{IsPunctuator, exact_is, name_is}
use Rattle.gql_base.proofs.WayLaws.WordLaws.{word_is, string_is}
use Rattle.gql_base.proofs.WayLaws.DeterminedNestings.{Determined}

-- what symbols do to levels

-- whether a value may begin after a symbol of this kind
abbrev pub is_mark : TokenKind → Bool
is_mark Colon = true
is_mark Equals = true
is_mark kind = false

abbrev pub brace_level : Bool → ℕ → ℕ
brace_level b (suc d) = suc (suc d)
brace_level true zero = 1
brace_level false zero = 0

abbrev pub outer : ℕ → ℕ
outer zero = zero
outer (suc d) = d

-- the nesting of a symbol of this kind, where so many levels are open and a value may begin or not
abbrev pub level_of : TokenKind → Bool → ℕ → ℕ
level_of OpenBracket b d = suc d
level_of OpenBrace b d = brace_level b d
level_of kind b d = d

-- the number of levels that are open after it
abbrev pub levels_after : TokenKind → Bool → ℕ → ℕ
levels_after CloseBracket b d = outer d
levels_after CloseBrace b d = outer d
levels_after kind b d = level_of kind b d

-- symbols with the nestings that they tell
unfoldable pub labelled : Bool → ℕ → Symbols → Nested
labelled b d [] = []
labelled b d (w ∷ ws) = (w, level_of (kind_of w) b d) ∷ labelled (is_mark (kind_of w)) (levels_after (kind_of w) b d) ws

-- These symbols have the nestings that they tell, whatever comes after; so many levels are open after them as before,
-- and the marks say whether a value may begin before and after.
abbrev pub Runs : Bool → Bool → ℕ → Nested → Type 0
Runs b c d ws = (rest : Symbols) → labelled b d (plain ws ++ rest) ≡ ws ++ labelled c d rest

-- so for the symbols of each thing
pub record Labelled {A : Type 0} (S : A → Nested → Type 0) (b c : Bool) (d : ℕ) : Type 0 where
  pub runs : (a : A) (ws : Nested) → S a ws → Runs b c d ws

-- the ways

pub none_runs : (b : Bool) (d : ℕ) → Runs b b d []
none_runs b d = λ rest. refl

pub joined_runs : (b m c : Bool) (d : ℕ) (f g ws : Nested) → Runs b m d f → Runs m c d g → ws ≡ f ++ g → Runs b c d ws
joined_runs b m c d f g ws r s is = subst (Runs b c d) (sym is) (λ rest. ap (labelled b d) (regroup f g rest) ∙ (r (plain g ++ rest) ∙ (ap (λ (l : Nested). f ++ l) (s rest) ∙ sym (append_assoc f g (labelled c d rest)))))

-- A symbol of this kind opens and closes no level.
abbrev pub IsFlat : Bool → Bool → ℕ → TokenKind → Type 0
IsFlat b c d kind = (level_of kind b d ≡ d) × (levels_after kind b d ≡ d) × (is_mark kind ≡ c)

one_runs : (b c : Bool) (d : ℕ) (w : Symbol) → IsFlat b c d (kind_of w) → Runs b c d ((w, d) ∷ [])
unfolding labelled
one_runs b c d w h = λ rest. ap (λ (k : ℕ). (w, k) ∷ labelled (is_mark (kind_of w)) (levels_after (kind_of w) b d) rest) h.0 ∙ (ap (λ (k : ℕ). (w, d) ∷ labelled (is_mark (kind_of w)) k rest) h.1 ∙ ap (λ (m : Bool). (w, d) ∷ labelled m d rest) h.2)

pub single_labelled : {A : Type 0} {b c : Bool} {d : ℕ} (taking : Taking A) → ((w : Symbol) (a : A) → taking w ≡ Some a → IsFlat b c d (kind_of w)) → Labelled (Single taking d) b c d
single_labelled {b = b} {c = c} {d = d} taking h = record { runs = λ a ws is. subst (Runs b c d) (sym is.1) (one_runs b c d is.0 (h is.0 a is.2)) }

pub mark_labelled : {b c : Bool} {d : ℕ} (kind : TokenKind) → IsPunctuator kind → IsFlat b c d kind → Labelled (Single (exact kind) d) b c d
mark_labelled {b = b} {c = c} {d = d} kind is flat = single_labelled (exact kind) (λ w a e. subst (IsFlat b c d) (sym (ap kind_of (exact_is kind w a is e))) flat)

pub name_labelled : {b : Bool} {d : ℕ} → Labelled (Single any_name d) b false d
name_labelled {b = b} {d = d} = single_labelled any_name (λ w x e. subst (IsFlat b false d) (sym (ap kind_of (name_is w x e))) (refl, refl, refl))

pub word_labelled : {b : Bool} {d : ℕ} (word : List ℕ) → Labelled (Single (keyword word) d) b false d
word_labelled {b = b} {d = d} word = single_labelled (keyword word) (λ w a e. subst (IsFlat b false d) (sym (ap kind_of (word_is word w a e).1)) (refl, refl, refl))

pub string_labelled : {b : Bool} {d : ℕ} → Labelled (Single any_string d) b false d
string_labelled {b = b} {d = d} = single_labelled any_string (λ w s e. subst (IsFlat b false d) (sym (ap kind_of (string_is w s e))) (refl, refl, refl))

pub pair_labelled : {A B : Type 0} {S : A → Nested → Type 0} {T : B → Nested → Type 0} {b m c : Bool} {d : ℕ} → Labelled S b m d → Labelled T m c d → Labelled (Pair S T) b c d
pair_labelled {b = b} {m = m} {c = c} {d = d} l r = record { runs = λ p ws is. joined_runs b m c d is.0 is.1 ws (l.runs p.0 is.0 is.3) (r.runs p.1 is.1 is.4) is.2 }

pub image_labelled : {A B : Type 0} {S : A → Nested → Type 0} {b c : Bool} {d : ℕ} (f : A → B) → Labelled S b c d → Labelled (Image f S) b c d
image_labelled f l = record { runs = λ x ws is. l.runs is.0 ws is.2 }

pub choice_labelled : {A : Type 0} {S T : A → Nested → Type 0} {b c : Bool} {d : ℕ} → Labelled S b c d → Labelled T b c d → Labelled (Choice S T) b c d
choice_labelled l r = record { runs = λ a ws is. elim is [ inl one ↦ l.runs a ws one | inr other ↦ r.runs a ws other ] }

-- what may be left out stands where no value begins

pub optional_labelled : {A : Type 0} {S : A → Nested → Type 0} {d : ℕ} (none : A) → Labelled S false false d → Labelled (Optional none S) false false d
optional_labelled {d = d} none l = choice_labelled l (record { runs = λ a ws is. subst (Runs false false d) (sym is.1) (none_runs false d) })

each_runs : {A : Type 0} (S : A → Nested → Type 0) (d : ℕ) → Labelled S false false d → (l : List A) (ws : Nested) → Repeated S l ws → Runs false false d ws
each_runs S d s [] ws are = subst (Runs false false d) (sym are) (none_runs false d)
each_runs S d s (a ∷ l) ws are = joined_runs false false false d are.0 are.1 ws (s.runs a are.0 are.3) (each_runs S d s l are.1 are.4) are.2

pub repeated_labelled : {A : Type 0} {S : A → Nested → Type 0} {d : ℕ} → Labelled S false false d → Labelled (Repeated S) false false d
repeated_labelled {S = S} {d = d} s = record { runs = each_runs S d s }

pub one_or_more_labelled : {A : Type 0} {S : A → Nested → Type 0} {d : ℕ} → Labelled S false false d → Labelled (OneOrMore S) false false d
one_or_more_labelled s = image_labelled listed (pair_labelled s (repeated_labelled s))

-- levels

bracketed_runs : (o c : TokenKind) (b : Bool) (d : ℕ) (P : Nested → Type 0) (ws : Nested) → (level_of o b d ≡ suc d) × (levels_after o b d ≡ suc d) × (is_mark o ≡ false) → (level_of c false (suc d) ≡ suc d) × (levels_after c false (suc d) ≡ d) × (is_mark c ≡ false)
    → Bracketed o c d P ws → ((inner : Nested) → P inner → Runs false false (suc d) inner) → Runs b false d ws
unfolding labelled
bracketed_runs o c b d P ws opens closes is inside =
    let close : Nested = (punctuator c, suc d) ∷ [] in
    subst (Runs b false d) (sym is.1) (λ rest.
    let last : labelled false (suc d) (punctuator c ∷ rest) ≡ (punctuator c, suc d) ∷ labelled false d rest = ap (λ (k : ℕ). (punctuator c, k) ∷ labelled (is_mark c) (levels_after c false (suc d)) rest) closes.0 ∙ (ap (λ (k : ℕ). (punctuator c, suc d) ∷ labelled (is_mark c) k rest) closes.1 ∙ ap (λ (m : Bool). (punctuator c, suc d) ∷ labelled m d rest) closes.2) in
    let within : labelled false (suc d) (plain (is.0 ++ close) ++ rest) ≡ (is.0 ++ close) ++ labelled false d rest = ap (labelled false (suc d)) (regroup is.0 close rest) ∙ (inside is.0 is.2 (punctuator c ∷ rest) ∙ (ap (λ (l : Nested). is.0 ++ l) last ∙ sym (append_assoc is.0 close (labelled false d rest)))) in
    ap (λ (k : ℕ). (punctuator o, k) ∷ labelled (is_mark o) (levels_after o b d) (plain (is.0 ++ close) ++ rest)) opens.0
    ∙ (ap (λ (k : ℕ). (punctuator o, suc d) ∷ labelled (is_mark o) k (plain (is.0 ++ close) ++ rest)) opens.1 ∙ (ap (λ (m : Bool). (punctuator o, suc d) ∷ labelled m (suc d) (plain (is.0 ++ close) ++ rest)) opens.2 ∙ ap (λ (l : Nested). (punctuator o, suc d) ∷ l) within)))

-- values, where a brace opens a level

literal_flat : (b : Bool) (d : ℕ) (w : Symbol) (t : ValueTree) → literal w ≡ Some t → IsFlat b false d (kind_of w)
literal_flat b d (punctuator kind) t e = cc
literal_flat b d (identifier bytes at) t e = (refl, refl, refl)
literal_flat b d (integer v) t e = (refl, refl, refl)
literal_flat b d (decimal bytes) t e = (refl, refl, refl)
literal_flat b d (string v) t e = (refl, refl, refl)

leaf_runs : (b : Bool) (d : ℕ) (t : ValueTree) (ws : Nested) → Single literal d t ws → Runs b false d ws
leaf_runs b d t ws is = (single_labelled literal (literal_flat b d)).runs t ws is

mutual
  unfolding IsValue

  value_runs : (k b : Bool) (d : ℕ) → brace_level b d ≡ suc d → (t : ValueTree) (ws : Nested) → IsValue k d t ws → Runs b false d ws
  value_runs k b d h (variable_value name at) ws is = joined_runs b false false d ((punctuator Dollar, d) ∷ []) ((identifier name at, d) ∷ []) ws (one_runs b false d (punctuator Dollar) (refl, refl, refl)) (one_runs false false d (identifier name at) (refl, refl, refl)) is.1
  value_runs k b d h (integer_value v) ws is = leaf_runs b d (integer_value v) ws is
  value_runs k b d h (float_value bytes) ws is = leaf_runs b d (float_value bytes) ws is
  value_runs k b d h (string_value v) ws is = leaf_runs b d (string_value v) ws is
  value_runs k b d h (boolean_value v) ws is = leaf_runs b d (boolean_value v) ws is
  value_runs k b d h null_value ws is = leaf_runs b d null_value ws is
  value_runs k b d h (enum_value name at) ws is = leaf_runs b d (enum_value name at) ws is
  value_runs k b d h (list_value values) ws is = bracketed_runs OpenBracket CloseBracket b d (AreValues k (suc d) values) ws (refl, refl, refl) (refl, refl, refl) is (λ inner are. values_run k d values inner are)
  value_runs k b d h (object_value fields) ws is = bracketed_runs OpenBrace CloseBrace b d (AreFields k (suc d) fields) ws (h, h, refl) (refl, refl, refl) is (λ inner are. fields_run k d fields inner are)

  values_run : (k : Bool) (d : ℕ) (ts : ValueTrees) (ws : Nested) → AreValues k (suc d) ts ws → Runs false false (suc d) ws
  values_run k d no_value ws are = subst (Runs false false (suc d)) (sym are) (none_runs false (suc d))
  values_run k d (value_then t ts) ws are = joined_runs false false false (suc d) are.0 are.1 ws (value_runs k false (suc d) refl t are.0 are.3) (values_run k d ts are.1 are.4) are.2

  fields_run : (k : Bool) (d : ℕ) (fs : FieldTrees) (ws : Nested) → AreFields k (suc d) fs ws → Runs false false (suc d) ws
  fields_run k d no_field ws are = subst (Runs false false (suc d)) (sym are) (none_runs false (suc d))
  fields_run k d (field_then name at t fs) ws are =
      let value : Runs false false (suc d) ((punctuator Colon, suc d) ∷ are.0) = joined_runs false true false (suc d) ((punctuator Colon, suc d) ∷ []) are.0 ((punctuator Colon, suc d) ∷ are.0) (one_runs false true (suc d) (punctuator Colon) (refl, refl, refl)) (value_runs k true (suc d) refl t are.0 are.3) refl in
      let field : Runs false false (suc d) ((identifier name at, suc d) ∷ (punctuator Colon, suc d) ∷ are.0) = joined_runs false false false (suc d) ((identifier name at, suc d) ∷ []) ((punctuator Colon, suc d) ∷ are.0) ((identifier name at, suc d) ∷ (punctuator Colon, suc d) ∷ are.0) (one_runs false false (suc d) (identifier name at) (refl, refl, refl)) value refl in
      joined_runs false false false (suc d) ((identifier name at, suc d) ∷ (punctuator Colon, suc d) ∷ are.0) are.1 ws field (fields_run k d fs are.1 are.4) are.2

-- a value after a colon or an equals sign
value_labelled : (k : Bool) → Labelled (IsValue k 0) true false 0
value_labelled k = record { runs = λ t ws is. value_runs k true 0 refl t ws is }

-- types

type_runs : (b : Bool) (d : ℕ) (t : TypeTree) (ws : Nested) → IsType d t ws → Runs b false d ws
unfolding IsType
type_runs b d (named_type name at) ws is = subst (Runs b false d) (sym is) (one_runs b false d (identifier name at) (refl, refl, refl))
type_runs b d (list_type t) ws is = bracketed_runs OpenBracket CloseBracket b d (IsType (suc d) t) ws (refl, refl, refl) (refl, refl, refl) is (λ inner of. type_runs false (suc d) t inner of)
type_runs b d (non_null_type t) ws is = joined_runs b false false d is.1 ((punctuator Bang, d) ∷ []) ws (type_runs b d t is.1 is.3) (one_runs false false d (punctuator Bang) (refl, refl, refl)) is.2

pub type_labelled : Labelled (IsType 0) true false 0
type_labelled = record { runs = λ t ws is. type_runs true 0 t ws is }

-- arguments, directives and defaults

pub colon_labelled : Labelled (Single (exact Colon) 0) false true 0
colon_labelled = mark_labelled Colon tt (refl, refl, refl)

argument_labelled : (k : Bool) → Labelled (IsArgument k 0) false false 0
argument_labelled k = image_labelled named_value_of (pair_labelled name_labelled (pair_labelled colon_labelled (value_labelled k)))

applied_labelled : (k : Bool) → Labelled (AreArguments k 0) false false 0
applied_labelled k = image_labelled inside (pair_labelled {m = false} (mark_labelled OpenParen tt (refl, refl, refl)) (pair_labelled (one_or_more_labelled (argument_labelled k)) (mark_labelled CloseParen tt (refl, refl, refl))))

pub directives_labelled : (k : Bool) → Labelled (AreDirectives k 0) false false 0
directives_labelled k = repeated_labelled (image_labelled second (pair_labelled {m = false} (mark_labelled At tt (refl, refl, refl)) (pair_labelled {m = false} name_labelled (optional_labelled [] (applied_labelled k)))))

pub default_labelled : Labelled (IsDefault 0) false false 0
default_labelled = image_labelled some_second (pair_labelled {m = true} (mark_labelled Equals tt (refl, refl, refl)) (value_labelled true))

-- what a thing begins with has the nestings that its symbols tell

front_labelled : (b : Bool) (d : ℕ) (f more : Nested) → labelled b d (plain (f ++ more)) ≡ f ++ more → labelled b d (plain f) ≡ f
unfolding labelled
front_labelled b d [] more e = refl
front_labelled b d (w ∷ f) more e =
    let h = first_same (w.0, level_of (kind_of w.0) b d) w (labelled (is_mark (kind_of w.0)) (levels_after (kind_of w.0) b d) (plain (f ++ more))) (f ++ more) e in
    let t = front_labelled (is_mark (kind_of w.0)) (levels_after (kind_of w.0) b d) f more h.1 in
    cc (h.0, t)

labelled_more : (b : Bool) (d : ℕ) (xs ys : Symbols) → (m : Nested) × (labelled b d (xs ++ ys) ≡ labelled b d xs ++ m)
unfolding labelled
labelled_more b d [] ys = (labelled b d ys, refl)
labelled_more b d (x ∷ xs) ys = let r = labelled_more (is_mark (kind_of x)) (levels_after (kind_of x) b d) xs ys in (r.0, ap (λ (l : Nested). (x, level_of (kind_of x) b d) ∷ l) r.1)

begins_labelled : {A : Type 0} {S : A → Nested → Type 0} {b c : Bool} {d : ℕ} → Labelled S b c d → (a : A) (f more : Nested) → S a (f ++ more) → labelled b d (plain f) ≡ f
unfolding labelled
begins_labelled {b = b} {d = d} s a f more is = front_labelled b d f more (ap (labelled b d) (sym (append-nil (plain (f ++ more)))) ∙ (s.runs a (f ++ more) is [] ∙ append-nil (f ++ more)))

pub determined : {A : Type 0} {S : A → Nested → Type 0} {b c : Bool} {d : ℕ} → Labelled S b c d → Determined S
determined {b = b} {d = d} s = record {
  same = λ x y f more g others m is it e.
      let k = labelled_more b d (plain g) m in
      (k.0, sym (begins_labelled s x f more is) ∙ (ap (labelled b d) e ∙ (k.1 ∙ ap (λ (l : Nested). l ++ k.0) (begins_labelled s y g others it))));
}
