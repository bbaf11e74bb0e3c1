-- What tests say of the first symbols of things.
use Rattle.std.proofs.Common.{ℕ, suc, ◌≡◌, ◌≤◌, ◌⊎◌, inl, inr, Bool, true, false, List, [], ◌∷◌, ◌++◌, Option, Some, refl, sym, ap, ◌∙◌, subst}
use Rattle.std.specs.Prelude.{◌==◌, not, if◌then◌else◌}
use Rattle.std.proofs.lemmas.Bool.{eqb-true, eq-eqb}
use Rattle.gql_base.specs.declared.lexical.token.TokenKind.{TokenKind}
use Rattle.gql_base.specs.declared.lexical.token.TokenKind.TheVariants.{Name, Int, Float, Str, BlockStr, Bang, Dollar, Amp, OpenParen, CloseParen, Spread, Colon, Equals, At, OpenBracket, CloseBracket, OpenBrace, Pipe, CloseBrace}
use Rattle.gql_base.specs.ways.Symbols.{Symbol, punctuator, identifier, integer, decimal, string, Symbols, kind_of, kind_number}
use Rattle.gql_base.specs.ways.Reading.{Reader, Test, Taking, next, is_some, takes, single, pair, image, repeated, when, exact, Identifier, any_name, up_to, never}
use Rattle.gql_base.specs.ways.Grammar.{Nested, plain, Single, Pair, Image, Choice, Optional, Repeated, Level, Bracketed}
use Rattle.gql_base.proofs.WayLaws.ReadingLaws.{Law, regroup, pair_law, image_law, single_law, Heads, Passes}
use Rattle.gql_base.proofs.WayLaws.RepeatingLaws.{repeated_law}

-- punctuators by their kinds

abbrev pub IsPunctuator : TokenKind → Type 0
IsPunctuator Name = ⊥
IsPunctuator Int = ⊥
IsPunctuator Float = ⊥
IsPunctuator Str = ⊥
IsPunctuator BlockStr = ⊥
IsPunctuator kind = Unit {0}

kind_at : ℕ → TokenKind
kind_at n =
    if n == 0 then Name
    else if n == 1 then Int
    else if n == 2 then Float
    else if n == 3 then Str
    else if n == 5 then Bang
    else if n == 6 then Dollar
    else if n == 7 then Amp
    else if n == 8 then OpenParen
    else if n == 9 then CloseParen
    else if n == 10 then Spread
    else if n == 11 then Colon
    else if n == 12 then Equals
    else if n == 13 then At
    else if n == 14 then OpenBracket
    else if n == 15 then CloseBracket
    else if n == 16 then OpenBrace
    else if n == 17 then Pipe
    else CloseBrace

back : (kind : TokenKind) → IsPunctuator kind → kind_at (kind_number kind) ≡ kind
unfolding kind_at
back Name is = absurd is
back Int is = absurd is
back Float is = absurd is
back Str is = absurd is
back BlockStr is = absurd is
back Bang is = refl
back Dollar is = refl
back Amp is = refl
back OpenParen is = refl
back CloseParen is = refl
back Spread is = refl
back Colon is = refl
back Equals is = refl
back At is = refl
back OpenBracket is = refl
back CloseBracket is = refl
back OpenBrace is = refl
back Pipe is = refl
back CloseBrace is = refl

other_back : (kind : TokenKind) → (kind_at (kind_number kind) ≡ kind) ⊎ (kind_at (kind_number kind) ≡ Str)
unfolding kind_at
other_back Name = inl refl
other_back Int = inl refl
other_back Float = inl refl
other_back Str = inl refl
other_back BlockStr = inr refl
other_back Bang = inl refl
other_back Dollar = inl refl
other_back Amp = inl refl
other_back OpenParen = inl refl
other_back CloseParen = inl refl
other_back Spread = inl refl
other_back Colon = inl refl
other_back Equals = inl refl
other_back At = inl refl
other_back OpenBracket = inl refl
other_back CloseBracket = inl refl
other_back OpenBrace = inl refl
other_back Pipe = inl refl
other_back CloseBrace = inl refl

same_kind : (kind other : TokenKind) → IsPunctuator kind → kind_number kind ≡ kind_number other → other ≡ kind
same_kind kind other is e =
    let one : kind_at (kind_number other) ≡ kind = ap kind_at (sym e) ∙ back kind is in
    elim (other_back other) [
      | inl h ↦ sym h ∙ one
      | inr h ↦ absurd (subst IsPunctuator (sym one ∙ h) is)
    ]

pub when_true : (b : Bool) (a : Unit {0}) → when b ≡ Some a → b ≡ true
when_true true a e = refl
when_true false a e = cc

of_kind : (kind : TokenKind) (w : Symbol) → IsPunctuator kind → kind_of w ≡ kind → w ≡ punctuator kind
of_kind kind (punctuator other) is e = ap punctuator e
of_kind kind (identifier bytes at) is e = absurd (subst IsPunctuator (sym e) is)
of_kind kind (integer value) is e = absurd (subst IsPunctuator (sym e) is)
of_kind kind (decimal bytes) is e = absurd (subst IsPunctuator (sym e) is)
of_kind kind (string value) is e = absurd (subst IsPunctuator (sym e) is)

pub exact_is : (kind : TokenKind) (w : Symbol) (a : Unit {0}) → IsPunctuator kind → exact kind w ≡ Some a → w ≡ punctuator kind
exact_is kind w a is e = of_kind kind w is (same_kind kind (kind_of w) is (eqb-true (kind_number kind) (kind_number (kind_of w)) (when_true _ a e)))

pub exact_itself : (kind : TokenKind) → exact kind (punctuator kind) ≡ Some tt
exact_itself kind = ap when (eq-eqb (kind_number kind) (kind_number kind) refl)

pub name_is : (w : Symbol) (x : Identifier) → any_name w ≡ Some x → w ≡ identifier x.0 x.1
name_is (punctuator kind) x e = cc
name_is (identifier bytes at) x e = let f : (bytes, at) ≡ x = same _ x e in ap (λ (y : Identifier). identifier y.0 y.1) f
  where
    same : (a b : Identifier) → Some a ≡ Some b → a ≡ b
    same a b e = cc
name_is (integer value) x e = cc
name_is (decimal bytes) x e = cc
name_is (string value) x e = cc

-- the laws of one punctuator and of one name

pub mark_law : {d n : ℕ} (kind : TokenKind) → d ≤ n → Law (Single (exact kind) d) n never (single (exact kind)) (single (exact kind))
mark_law kind le = single_law (exact kind) tt (punctuator kind) (exact_itself kind) le

pub name_law : {d n : ℕ} → d ≤ n → Law (Single any_name d) n never (single any_name) (single any_name)
name_law le = single_law any_name ([], 0) (identifier [] 0) refl le

-- first symbols

pub heads_single : {A : Type 0} (b : Bool) (test : Test) (taking : Taking A) (d : ℕ) → ((w : Symbol) (a : A) → taking w ≡ Some a → test (Some w) ≡ b) → Heads b test (Single taking d)
heads_single b test taking d h = record { says = λ a f rest is. ap (λ (l : Nested). test (next (plain l ++ rest))) is.1 ∙ h is.0 a is.2 }

pub heads_mark : {b : Bool} {test : Test} {d : ℕ} (kind : TokenKind) → IsPunctuator kind → test (Some (punctuator kind)) ≡ b → Heads b test (Single (exact kind) d)
heads_mark {b = b} {test = test} {d = d} kind is e = heads_single b test (exact kind) d (λ w a h. ap (λ w. test (Some w)) (exact_is kind w a is h) ∙ e)

-- what the test says of each name
abbrev pub SaysOfNames : Bool → Test → Type 0
SaysOfNames b test = (bytes : List ℕ) (at : ℕ) → test (Some (identifier bytes at)) ≡ b

pub heads_name : {b : Bool} {test : Test} {d : ℕ} → SaysOfNames b test → Heads b test (Single any_name d)
heads_name {b = b} {test = test} {d = d} says = heads_single b test any_name d (λ w x h. ap (λ w. test (Some w)) (name_is w x h) ∙ says x.0 x.1)

pub heads_pair : {A B : Type 0} {b : Bool} {test : Test} {S : A → Nested → Type 0} (T : B → Nested → Type 0) → Heads b test S → Heads b test (Pair S T)
heads_pair {test = test} T h = record { says = λ p f rest is. ap (λ (l : Nested). test (next (plain l ++ rest))) is.2 ∙ (ap (λ (l : Symbols). test (next l)) (regroup is.0 is.1 rest) ∙ h.says p.0 is.0 (plain is.1 ++ rest) is.3) }

pub heads_image : {A B : Type 0} {b : Bool} {test : Test} {S : A → Nested → Type 0} {f : A → B} → Heads b test S → Heads b test (Image f S)
heads_image h = record { says = λ x f rest is. h.says is.0 f rest is.2 }

pub heads_choice : {A : Type 0} {b : Bool} {test : Test} {S T : A → Nested → Type 0} → Heads b test S → Heads b test T → Heads b test (Choice S T)
heads_choice h i = record {
  says = λ x f rest is. elim is [
    | inl first ↦ h.says x f rest first
    | inr other ↦ i.says x f rest other
  ];
}

-- things that may be without symbols

pub passes_heads : {A : Type 0} {goes test : Test} {S : A → Nested → Type 0} → Heads false test S → Passes goes test S
passes_heads h = record { fails = λ a f rest is e. h.says a f rest is }

pub passes_optional : {A : Type 0} {goes test : Test} {none : A} {S : A → Nested → Type 0} → Heads false test S → ((w : Option Symbol) → goes w ≡ false → test w ≡ false) → Passes goes test (Optional none S)
passes_optional {test = test} h ends = record {
  fails = λ a f rest is e. elim is [
    | inl there ↦ h.says a f rest there
    | inr left_out ↦ ap (λ (l : Nested). test (next (plain l ++ rest))) left_out.1 ∙ ends (next rest) e
  ];
}

pub passes_pair : {A B : Type 0} {goes test : Test} {S : A → Nested → Type 0} {T : B → Nested → Type 0} → Passes test test S → Passes goes test T → Passes goes test (Pair S T)
passes_pair {test = test} p q = record { fails = λ x f rest is e. ap (λ (l : Nested). test (next (plain l ++ rest))) is.2 ∙ (ap (λ (l : Symbols). test (next l)) (regroup is.0 is.1 rest) ∙ p.fails x.0 is.0 (plain is.1 ++ rest) is.3 (q.fails x.1 is.1 rest is.4 e)) }

pub heads_after : {A B : Type 0} {test : Test} {S : A → Nested → Type 0} {T : B → Nested → Type 0} → Passes test test S → Heads false test T → Heads false test (Pair S T)
heads_after {test = test} p h = record { says = λ x f rest is. ap (λ (l : Nested). test (next (plain l ++ rest))) is.2 ∙ (ap (λ (l : Symbols). test (next l)) (regroup is.0 is.1 rest) ∙ p.fails x.0 is.0 (plain is.1 ++ rest) is.3 (h.says x.1 is.1 rest is.4)) }

-- a thing and then one with which the first doesn't go on
pub then_law : {A B : Type 0} {S : A → Nested → Type 0} {T : B → Nested → Type 0} {n : ℕ} {first goes : Test} {r more : Reader A} {s more2 : Reader B}
    → Law S n first r more → Law T n goes s more2 → Passes goes first T → Law (Pair S T) n goes (pair r s) (pair more more2)
then_law l m p = pair_law l m (λ a b f g rest is it e. p.fails b g rest it e)

-- brackets

pub closes : {d : ℕ} (kind : TokenKind) (a : Unit {0}) (f : Nested) (rest : Symbols) → Single (exact kind) d a f → up_to kind (next (plain f ++ rest)) ≡ false
closes kind a f rest is = ap (λ (l : Nested). up_to kind (next (plain l ++ rest))) is.1 ∙ ap (λ o. not (is_some o)) is.2

-- things up to a closing bracket
pub closed_law : {A B : Type 0} {S : A → Nested → Type 0} {n d : ℕ} {r more : Reader A} (close : TokenKind) (f : List A × Unit {0} → B) → d ≤ n → Law S n never r more → Heads true (up_to close) S
    → Law (Image f (Pair (Repeated S) (Single (exact close) d))) n never (image f (pair (repeated (up_to close) r) (single (exact close)))) (image f (pair (repeated (up_to close) more) (single (exact close))))
closed_law close f le l heads = image_law f (then_law (repeated_law {goes = up_to close} (up_to close) l heads refl (record { says = λ a f rest is. refl }) (λ w e. (refl, e))) (mark_law close le) (record { fails = λ b g rest it e. closes close b g rest it }))

-- what is read between brackets stands between them
pub from_brackets : {A B : Type 0} (open_kind close_kind : TokenKind) (d : ℕ) (T : A → Nested → Type 0) (h : A × Unit {0} → B) (b : B) (ws : Nested) → IsPunctuator open_kind → IsPunctuator close_kind
    → Level (exact open_kind) d (Image h (Pair T (Single (exact close_kind) (suc d)))) b ws → (a : A) × (b ≡ h (a, tt)) × Bracketed open_kind close_kind d (T a) ws
from_brackets o c d T h b ws io ic p =
    let q = p.2 in let m = q.4 in let t = m.2 in
    let first : q.0 ≡ (punctuator o, suc d) ∷ [] = q.3.1 ∙ ap (λ (w : Symbol). (w, suc d) ∷ []) (exact_is o q.3.0 p.0.0 io q.3.2) in
    let last : t.1 ≡ (punctuator c, suc d) ∷ [] = t.4.1 ∙ ap (λ (w : Symbol). (w, suc d) ∷ []) (exact_is c t.4.0 m.0.1 ic t.4.2) in
    (m.0.0, p.1 ∙ m.1, (t.0, q.2 ∙ (ap (λ (l : Nested). l ++ q.1) first ∙ ap (λ (l : Nested). (punctuator o, suc d) ∷ l) (t.2 ∙ ap (λ (l : Nested). t.0 ++ l) last)), t.3))

pub to_brackets : {A B : Type 0} (open_kind close_kind : TokenKind) (d : ℕ) (T : A → Nested → Type 0) (h : A × Unit {0} → B) (a : A) (ws : Nested)
    → Bracketed open_kind close_kind d (T a) ws → Level (exact open_kind) d (Image h (Pair T (Single (exact close_kind) (suc d)))) (h (a, tt)) ws
to_brackets o c d T h a ws is =
    ((tt, h (a, tt)), refl, ((punctuator o, suc d) ∷ [], is.0 ++ ((punctuator c, suc d) ∷ []), is.1, (punctuator o, refl, exact_itself o), ((a, tt), refl, (is.0, (punctuator c, suc d) ∷ [], refl, is.2, (punctuator c, refl, exact_itself c)))))

-- a level begins with what opens it
pub heads_level : {A B : Type 0} {b : Bool} {test : Test} {d : ℕ} (T : B → Nested → Type 0) (taking : Taking A) → Heads b test (Single taking (suc d)) → Heads b test (Level taking d T)
heads_level T taking h = heads_image (heads_pair T h)

pub takes_level : {A B : Type 0} {d : ℕ} (T : B → Nested → Type 0) (taking : Taking A) → Heads true (takes taking) (Level taking d T)
takes_level {d = d} T taking = heads_level T taking (heads_single true (takes taking) taking (suc d) (λ w a e. ap is_some e))
