-- Reading type references gives what is written as types.
use Rattle.std.proofs.Common.{ℕ, zero, suc, ◌+◌, ◌≡◌, ◌≤◌, inl, inr, Bool, true, false, List, [], ◌∷◌, ◌++◌, Option, None, Some, Ok, refl, sym, ap, ◌∙◌, subst, arith, append-nil}
use Rattle.gql_base.specs.declared.lexical.token.TokenKind.TheVariants.{Bang, OpenBracket, CloseBracket}
use Rattle.gql_base.specs.ways.Symbols.{Symbol, punctuator, identifier, integer, decimal, string, Symbols}
use Rattle.gql_base.specs.ways.Reading.{Reader, Test, next, takes, pair, image, then_read, level, exact, never}
use Rattle.gql_base.specs.ways.Grammar.{Nested, plain, Within, Single, Pair, Image, Choice, Empty, Level}
use Rattle.gql_base.specs.parts.TypeReferences.{TypeTree, named_type, list_type, non_null_type, IsNullable, IsType, type_name, listed_type, there, with_bang, bang_at, in_list_type, nullable_with, type_with, type_at, nullable_at}
use Rattle.gql_base.proofs.WayLaws.ReadingLaws.{Law, Heads, as_law, image_law, single_law, choice_law, empty_law, after, regroup, pair_ok, within_front}
use Rattle.gql_base.proofs.WayLaws.LevelLaws.{open_law, shut_law, Family}
use Rattle.gql_base.proofs.WayLaws.SymbolTests.{exact_is, mark_law, heads_single, heads_mark, heads_image, passes_heads, then_law, from_brackets, to_brackets, takes_level}

abbrev WrittenList : ℕ → TypeTree → Nested → Type 0
WrittenList d = Level (exact OpenBracket) d (Image listed_type (Pair (IsType (suc d)) (Single (exact CloseBracket) (suc d))))

abbrev WrittenNullable : ℕ → TypeTree → Nested → Type 0
WrittenNullable d = Choice (WrittenList d) (Single type_name d)

abbrev WrittenBang : ℕ → Bool → Nested → Type 0
WrittenBang d = Choice (Image there (Single (exact Bang) d)) (Empty false)

abbrev WrittenType : ℕ → TypeTree → Nested → Type 0
WrittenType d = Image with_bang (Pair (WrittenNullable d) (WrittenBang d))

type_name_is : (w : Symbol) (t : TypeTree) → type_name w ≡ Some t → (name : List ℕ) × (at : ℕ) × (w ≡ identifier name at) × (t ≡ named_type name at)
type_name_is (punctuator k) t e = cc
type_name_is (identifier n at) t e = (n, at, refl, same t e)
  where
    same : (t : TypeTree) → Some (named_type n at) ≡ Some t → t ≡ named_type n at
    same t e = cc
type_name_is (integer v) t e = cc
type_name_is (decimal bytes) t e = cc
type_name_is (string v) t e = cc

nullable_is : (d : ℕ) (t : TypeTree) (f : Nested) → WrittenNullable d t f → IsNullable t × IsType d t f
unfolding IsType
nullable_is d t f (inl is) = let m = from_brackets OpenBracket CloseBracket d (IsType (suc d)) listed_type t f tt tt is in
    subst (λ (t : TypeTree). IsNullable t × IsType d t f) (sym m.1) (tt, m.2)
nullable_is d t f (inr is) = let n = type_name_is is.0 t is.2 in
    subst (λ (t : TypeTree). IsNullable t × IsType d t f) (sym n.3) (tt, is.1 ∙ ap (λ (w : Symbol). (w, d) ∷ []) n.2)

of_nullable : (d : ℕ) (t : TypeTree) (f : Nested) → IsNullable t → IsType d t f → WrittenNullable d t f
unfolding IsType
of_nullable d (named_type n at) f nullable is = inr (identifier n at, is, refl)
of_nullable d (list_type t) f nullable is = inl (to_brackets OpenBracket CloseBracket d (IsType (suc d)) listed_type t f is)
of_nullable d (non_null_type t) f nullable is = absurd nullable

with_bang_is : (d : ℕ) (t : TypeTree) (b : Bool) (f g : Nested) → IsNullable t → IsType d t f → WrittenBang d b g → IsType d (with_bang (t, b)) (f ++ g)
unfolding IsType
with_bang_is d t b f g n is (inl m) = subst (λ (b : Bool). IsType d (with_bang (t, b)) (f ++ g)) (sym m.1) (n, f, ap (λ (l : Nested). f ++ l) (m.2.1 ∙ ap (λ (w : Symbol). (w, d) ∷ []) (exact_is Bang m.2.0 m.0 tt m.2.2)), is)
with_bang_is d t b f g n is (inr m) = subst (λ (b : Bool). IsType d (with_bang (t, b)) (f ++ g)) (sym m.0) (subst (IsType d t) (sym (ap (λ (l : Nested). f ++ l) m.1 ∙ append-nil f)) is)

type_is : (d : ℕ) (t : TypeTree) (f : Nested) → WrittenType d t f → IsType d t f
type_is d t f is = let q = is.2 in let n = nullable_is d is.0.0 q.0 q.3 in
    subst (λ (t : TypeTree). IsType d t f) (sym is.1) (subst (IsType d (with_bang is.0)) (sym q.2) (with_bang_is d is.0.0 is.0.1 q.0 q.1 n.0 n.1 q.4))

of_type : (d : ℕ) (t : TypeTree) (f : Nested) → IsType d t f → WrittenType d t f
unfolding IsType
of_type d (named_type n at) f is = ((named_type n at, false), refl, (f, [], sym (append-nil f), of_nullable d (named_type n at) f tt is, inr (refl, refl)))
of_type d (list_type t) f is = ((list_type t, false), refl, (f, [], sym (append-nil f), of_nullable d (list_type t) f tt is, inr (refl, refl)))
of_type d (non_null_type t) f is = ((t, true), refl, (is.1, (punctuator Bang, d) ∷ [], is.2, of_nullable d t is.1 is.0 is.3, inl (tt, refl, (punctuator Bang, refl, refl))))

heads_type_name : {b : Bool} {test : Test} {d : ℕ} → ((bytes : List ℕ) (at : ℕ) → test (Some (identifier bytes at)) ≡ b) → Heads b test (Single type_name d)
heads_type_name {b = b} {test = test} {d = d} says = heads_single b test type_name d (λ w t e. let n = type_name_is w t e in ap (λ w. test (Some w)) n.2 ∙ says n.0 n.1)

bang_law : {d n : ℕ} → d ≤ n → Law (WrittenBang d) n (takes (exact Bang)) bang_at bang_at
bang_law {n = n} le = choice_law (takes (exact Bang)) (image_law there (mark_law Bang le)) (empty_law false n) (λ w e. (refl, refl)) (heads_image (heads_mark Bang tt refl))
    (record { fails = λ b f rest is e. ap (λ (l : Nested). takes (exact Bang) (next (plain l ++ rest))) is.1 ∙ e })

nullable_law : {d n : ℕ} (list more : Option (Reader TypeTree)) → d ≤ n → Law (WrittenList d) n never (level (exact OpenBracket) list) (level (exact OpenBracket) more) → Law (WrittenNullable d) n never (nullable_with list) (nullable_with more)
nullable_law list more le l = choice_law (takes (exact OpenBracket)) l (single_law type_name (named_type [] 0) (identifier [] 0) refl le) (λ w e. (refl, refl)) (takes_level _ (exact OpenBracket)) (passes_heads (heads_type_name (λ n at. refl)))

with_law : {d n : ℕ} (list more : Option (Reader TypeTree)) → d ≤ n → Law (WrittenList d) n never (level (exact OpenBracket) list) (level (exact OpenBracket) more) → Law (IsType d) n (takes (exact Bang)) (type_with list) (type_with more)
with_law {d = d} list more le l = as_law (type_is d) (of_type d) (image_law with_bang (after (nullable_law list more le l) (bang_law le)))

some_list : (d : ℕ) → (b : TypeTree) × (f : Nested) × Image listed_type (Pair (IsType (suc d)) (Single (exact CloseBracket) (suc d))) b f
unfolding IsType
some_list d = (list_type (named_type [] 0), (identifier [] 0, suc d) ∷ (punctuator CloseBracket, suc d) ∷ [], ((named_type [] 0, tt), refl, ((identifier [] 0, suc d) ∷ [], (punctuator CloseBracket, suc d) ∷ [], refl, refl, (punctuator CloseBracket, refl, refl))))

shut_list_law : (d n : ℕ) (list : Option (Reader TypeTree)) → d ≡ n → Law (WrittenList d) n never (level (exact OpenBracket) None) (level (exact OpenBracket) list)
shut_list_law d n list e = subst (λ n. Law (WrittenList d) n never (level (exact OpenBracket) None) (level (exact OpenBracket) list)) e (shut_law (exact OpenBracket) tt (punctuator OpenBracket) refl (some_list d) list)

open_list_law : {d n : ℕ} {inner more : Reader TypeTree} → suc d ≤ n → Law (IsType (suc d)) n (takes (exact Bang)) inner more → Law (WrittenList d) n never (level (exact OpenBracket) (Some (in_list_type inner))) (level (exact OpenBracket) (Some (in_list_type more)))
open_list_law le l = open_law (exact OpenBracket) tt (punctuator OpenBracket) refl le (image_law listed_type (then_law l (mark_law CloseBracket le) (passes_heads (heads_mark CloseBracket tt refl))))

pub type_law : (left more d n : ℕ) → left ≤ more → n ≡ d + left → Law (IsType d) n (takes (exact Bang)) (type_at left) (type_at more)
unfolding type_at
type_law zero zero d n le e = with_law None None (omega (arith, e)) (shut_list_law d n None (omega (arith, e)))
type_law zero (suc more) d n le e = with_law None (Some (in_list_type (type_at more))) (omega (arith, e)) (shut_list_law d n (Some (in_list_type (type_at more))) (omega (arith, e)))
type_law (suc left) zero d n le e = absurd (omega arith)
type_law (suc left) (suc more) d n le e = with_law (Some (in_list_type (type_at left))) (Some (in_list_type (type_at more))) (omega (arith, e)) (open_list_law (omega (arith, e)) (type_law left more (suc d) n (omega arith) (omega (arith, e))))

pub type_family : Family (IsType 0) (takes (exact Bang)) type_at
type_family = record { law = λ n more le. type_law n more 0 n le (omega arith); at_end = refl }

-- a non-null type is read whatever follows

nullable_at_law : (n : ℕ) → Law (WrittenNullable 0) n never (nullable_at n) (nullable_at n)
unfolding nullable_at
nullable_at_law zero = nullable_law None None (omega arith) (shut_list_law 0 0 None refl)
nullable_at_law (suc n) = nullable_law (Some (in_list_type (type_at n))) (Some (in_list_type (type_at n))) (omega arith) (open_list_law (omega arith) (type_law n n 1 (suc n) (omega arith) (omega arith)))

pub type_parts : (n : ℕ) (ws : Symbols) → type_at n ws ≡ image with_bang (pair (nullable_at n) bang_at) ws
unfolding type_at nullable_at
type_parts zero ws = refl
type_parts (suc n) ws = refl

pub non_null_read : (n : ℕ) (t : TypeTree) (front : Nested) (rest : Symbols) → IsType 0 (non_null_type t) front → Within n front → type_at n (plain front ++ rest) ≡ Ok (non_null_type t, rest)
unfolding IsType
non_null_read n t front rest is within =
    let bang : Nested = (punctuator Bang, 0) ∷ [] in
    let w : Within n (is.1 ++ bang) = subst (Within n) is.2 within in
    let first : nullable_at n (plain is.1 ++ (punctuator Bang ∷ rest)) ≡ Ok (t, punctuator Bang ∷ rest) = (nullable_at_law n).only t is.1 (punctuator Bang ∷ rest) (of_nullable 0 t is.1 is.0 is.3) (within_front n is.1 bang w) refl in
    type_parts n (plain front ++ rest) ∙ (ap (λ (l : Nested). image with_bang (pair (nullable_at n) bang_at) (plain l ++ rest)) is.2 ∙ (ap (image with_bang (pair (nullable_at n) bang_at)) (regroup is.1 bang rest)
    ∙ ap (λ o. then_read o (λ x. Ok (with_bang x.0, x.1))) (pair_ok (nullable_at n) bang_at _ (punctuator Bang ∷ rest) rest t true first refl)))
