-- The value of a block string is UTF-8, as its text is.
use Rattle.std.proofs.Common.{◌≡◌, inl, inr, ℕ, zero, suc, ◌<◌, ◌≤◌, true, false, ◌==◌, ◌&&◌, List, [], ◌∷◌, ◌++◌, length, take, drop, map, min, get_or, IsUtf8, IsCharBoundary, refl, sym, arith, subst}
use Rattle.std.specs.List.{join_with_byte}
use Rattle.std.proofs.Math.Nat.{min-le_right}
use Rattle.std.proofs.lemmas.Bool.{cases_Bool, eqb-true, and_parts}
use Rattle.std.proofs.lemmas.Bool.Decides.{nat_tests}
use Rattle.std.proofs.lemmas.List.{append_assoc, append-nil, length-append, take_at, drop_at}
use Rattle.std.proofs.lemmas.Str.{IsUtf8-nil, IsUtf8-append, IsUtf8-take, IsUtf8-drop, IsUtf8-from_ascii, IsCharBoundary-before_ascii, IsCharBoundary-after_ascii}
use Rattle.gql_base.specs.lexical.Characters.{is_line_end}
use Rattle.gql_base.specs.lexical.Strings.{begins_with_marks}
use Rattle.gql_base.specs.lexical.Blocks.{unescaped, begins_with_line_feed, begun_with, lines_of, indent, common_indent, unindented, without_indent, without_blank_front, without_blank_end, block_text}
use Rattle.gql_base.proofs.LexicalLaws.BlockMarks.{escaped_marks, other_byte}
use Rattle.gql_base.proofs.LexicalLaws.BlockLines.{border_of_indent, without_common_indent}

-- ---- both sides of an ASCII byte

byte_between : (xs ys : List ℕ) (c : ℕ) → get_or (xs ++ c ∷ ys) (length xs) 0 ≡ c
byte_between [] ys c = refl
byte_between (x ∷ xs) ys c = byte_between xs ys c

border_between : (xs ys : List ℕ) (c : ℕ) → c < 128 → IsCharBoundary (xs ++ c ∷ ys) (length xs)
border_between xs ys c small =
    IsCharBoundary-before_ascii (xs ++ c ∷ ys) (length xs) (omega (arith, length-append xs (c ∷ ys)))
    (subst (λ b. b < 128) (sym (byte_between xs ys c)) small)

front_is_text : (xs ys : List ℕ) (c : ℕ) → c < 128 → IsUtf8 (xs ++ c ∷ ys) → IsUtf8 xs
front_is_text xs ys c small utf8 =
    subst IsUtf8 (take_at xs (c ∷ ys) (length xs) refl) (IsUtf8-take (xs ++ c ∷ ys) (length xs) utf8 (border_between xs ys c small))

tail_is_text : (c : ℕ) (cs : List ℕ) → c < 128 → IsUtf8 (c ∷ cs) → IsUtf8 cs
tail_is_text c cs small utf8 = IsUtf8-drop (c ∷ cs) 1 utf8 (IsCharBoundary-after_ascii (c ∷ cs) 0 utf8 (omega arith) small)

back_is_text : (xs ys : List ℕ) (c : ℕ) → c < 128 → IsUtf8 (xs ++ c ∷ ys) → IsUtf8 ys
back_is_text xs ys c small utf8 =
    tail_is_text c ys small
    (subst IsUtf8 (drop_at xs (c ∷ ys) (length xs) refl) (IsUtf8-drop (xs ++ c ∷ ys) (length xs) utf8 (border_between xs ys c small)))

without_byte : (xs ys : List ℕ) (c : ℕ) → c < 128 → IsUtf8 (xs ++ c ∷ ys) → IsUtf8 (xs ++ ys)
without_byte xs ys c small utf8 = IsUtf8-append xs ys (front_is_text xs ys c small utf8) (back_is_text xs ys c small utf8)

equal_is_ascii : (c n : ℕ) → (c == n) ≡ true → n < 128 → c < 128
equal_is_ascii c n is small = omega (arith, eqb-true c n is, small)

-- ---- marks

unescaped_after : (xs cs : List ℕ) → IsUtf8 (xs ++ cs) → IsUtf8 (xs ++ unescaped cs)
unfolding unescaped
unescaped_after xs [] utf8 = utf8
unescaped_after xs (c ∷ cs) utf8 = elim (cases_Bool ((c == 92) && begins_with_marks cs)) [
  | inl marks ↦ subst (λ ys. IsUtf8 (xs ++ ys)) (sym (escaped_marks c cs marks))
      (unescaped_after xs cs (without_byte xs cs c (equal_is_ascii c 92 (and_parts (c == 92) (begins_with_marks cs) marks).0 (omega arith)) utf8))
  | inr other ↦ subst (λ ys. IsUtf8 (xs ++ ys)) (sym (other_byte c cs other))
      (subst IsUtf8 (append_assoc xs (c ∷ []) (unescaped cs)) (unescaped_after (xs ++ c ∷ []) cs (subst IsUtf8 (sym (append_assoc xs (c ∷ []) cs)) utf8)))
]

-- ---- lines

AreUtf8 : List (List ℕ) → Type 0
AreUtf8 [] = Unit {0}
AreUtf8 (l ∷ ls) = IsUtf8 l × AreUtf8 ls

-- the lines, the first of which stands after these bytes
AreUtf8After : List ℕ → List (List ℕ) → Type 0
AreUtf8After xs [] = IsUtf8 xs
AreUtf8After xs (l ∷ ls) = IsUtf8 (xs ++ l) × AreUtf8 ls

after_nothing : (ls : List (List ℕ)) → AreUtf8After [] ls → AreUtf8 ls
unfolding AreUtf8 AreUtf8After
after_nothing [] are = tt
after_nothing (l ∷ ls) are = are

one_byte_less : (xs : List ℕ) (c : ℕ) (ls : List (List ℕ)) → AreUtf8After (xs ++ c ∷ []) ls → AreUtf8After xs (begun_with c ls)
unfolding AreUtf8 AreUtf8After
one_byte_less xs c [] are = (are, tt)
one_byte_less xs c (l ∷ ls) are = (subst IsUtf8 (append_assoc xs (c ∷ []) l) are.0, are.1)

lines_after : (xs cs : List ℕ) → IsUtf8 (xs ++ cs) → AreUtf8After xs (lines_of cs)
unfolding AreUtf8 AreUtf8After lines_of
lines_after xs [] utf8 = (utf8, tt)
lines_after xs (c ∷ cs) utf8 = elim (cases_Bool ((c == 13) && begins_with_line_feed cs)) [
  | inl both ↦ subst (AreUtf8After xs) (sym (both_end c cs both))
      (lines_after xs cs (without_byte xs cs c (equal_is_ascii c 13 (and_parts (c == 13) (begins_with_line_feed cs) both).0 (omega arith)) utf8))
  | inr one ↦ elim (cases_Bool (is_line_end c)) [
    | inl ends ↦ subst (AreUtf8After xs) (sym (one_ends c cs one ends)) (
      subst IsUtf8 (sym (append-nil xs)) (front_is_text xs cs c (end_is_ascii c ends) utf8),
      after_nothing (lines_of cs) (lines_after [] cs (back_is_text xs cs c (end_is_ascii c ends) utf8)),
    )
    | inr inside ↦ subst (AreUtf8After xs) (sym (none_ends c cs one inside))
        (one_byte_less xs c (lines_of cs) (lines_after (xs ++ c ∷ []) cs (subst IsUtf8 (sym (append_assoc xs (c ∷ []) cs)) utf8)))
  ]
]
  where
    both_end : (c : ℕ) (cs : List ℕ) → ((c == 13) && begins_with_line_feed cs) ≡ true → lines_of (c ∷ cs) ≡ lines_of cs
    both_end c cs both = rw both refl

    one_ends : (c : ℕ) (cs : List ℕ) → ((c == 13) && begins_with_line_feed cs) ≡ false → is_line_end c ≡ true → lines_of (c ∷ cs) ≡ [] ∷ lines_of cs
    one_ends c cs one ends = rw one (rw ends refl)

    none_ends : (c : ℕ) (cs : List ℕ) → ((c == 13) && begins_with_line_feed cs) ≡ false → is_line_end c ≡ false → lines_of (c ∷ cs) ≡ begun_with c (lines_of cs)
    none_ends c cs one inside = rw one (rw inside refl)

    end_is_ascii : (c : ℕ) → is_line_end c ≡ true → c < 128
    end_is_ascii c ends = grind (arith, nat_tests)

-- ---- indents and blank lines

line_without : (l : List ℕ) (m : ℕ) → IsUtf8 l → m ≤ indent l → IsUtf8 (drop m l)
line_without l zero utf8 within = utf8
line_without l (suc m) utf8 within = IsUtf8-drop l (suc m) utf8 (border_of_indent l (suc m) utf8 (omega arith) within)

lines_without : (n : ℕ) (ls : List (List ℕ)) → AreUtf8 ls → AreUtf8 (map (unindented n) ls)
unfolding AreUtf8
lines_without n [] are = tt
lines_without n (l ∷ ls) are = (line_without l (min n (indent l)) are.0 (min-le_right n (indent l)), lines_without n ls are.1)

indent_taken : (ls : List (List ℕ)) → AreUtf8 ls → AreUtf8 (without_indent ls)
unfolding AreUtf8
indent_taken [] are = tt
indent_taken (l ∷ ls) are = (are.0, subst AreUtf8 (without_common_indent ls) (lines_without (common_indent ls) ls are.1))

lines_dropped : (n : ℕ) (ls : List (List ℕ)) → AreUtf8 ls → AreUtf8 (drop n ls)
unfolding AreUtf8
lines_dropped zero ls are = are
lines_dropped (suc n) [] are = tt
lines_dropped (suc n) (l ∷ ls) are = lines_dropped n ls are.1

lines_taken : (n : ℕ) (ls : List (List ℕ)) → AreUtf8 ls → AreUtf8 (take n ls)
unfolding AreUtf8
lines_taken zero ls are = tt
lines_taken (suc n) [] are = tt
lines_taken (suc n) (l ∷ ls) are = (are.0, lines_taken n ls are.1)

line_feed : IsUtf8 (10 ∷ [])
line_feed = IsUtf8-from_ascii (10 ∷ []) each
  where
    each : (i : ℕ) → get_or (10 ∷ []) i 0 < 128
    each zero = omega arith
    each (suc i) = omega arith

lines_joined : (ls : List (List ℕ)) → AreUtf8 ls → IsUtf8 (join_with_byte 10 ls)
unfolding AreUtf8
lines_joined [] are = IsUtf8-nil
lines_joined (l ∷ []) are = are.0
lines_joined (l ∷ m ∷ ls) are =
    IsUtf8-append l (10 ∷ join_with_byte 10 (m ∷ ls)) are.0 (IsUtf8-append (10 ∷ []) (join_with_byte 10 (m ∷ ls)) line_feed (lines_joined (m ∷ ls) are.1))

pub block_text_is_utf8 : (raw : List ℕ) → IsUtf8 raw → IsUtf8 (block_text raw)
unfolding block_text
block_text_is_utf8 raw utf8 =
    lines_joined (without_blank_end (without_blank_front (without_indent (lines_of (unescaped raw)))))
    (lines_taken _ (without_blank_front (without_indent (lines_of (unescaped raw))))
    (lines_dropped _ (without_indent (lines_of (unescaped raw)))
    (indent_taken (lines_of (unescaped raw))
    (after_nothing (lines_of (unescaped raw)) (lines_after [] (unescaped raw) (unescaped_after [] raw utf8))))))
