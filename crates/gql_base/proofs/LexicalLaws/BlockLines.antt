-- The lines of a block string, as slices of its text.
use Rattle.std.proofs.Common.{◌≡◌, ◌⊎◌, inl, inr, ℕ, suc, ◌+◌, ◌-◌, ◌<◌, ◌≤◌, Bool, true, false, not, ◌==◌, ◌&&◌, List, [], ◌∷◌, ◌++◌, length, take, drop, map, min, reverse, get_or, IsUtf8, IsCharBoundary, refl, sym, ap, ◌∙◌, arith, cond, Option, None, Some, subst}
use Rattle.std.specs.List.{AllPass, prefix_len, filter, fold, reduce, join_by, join_with_byte}
use Rattle.std.specs.Option.{unwrap_or}
use Rattle.std.proofs.Math.Nat.{min-eq_left}
use Rattle.std.proofs.lemmas.Bool.{cases_Bool, eqb-true, cases_lt}
use Rattle.std.proofs.lemmas.List.{drop_all, drop-drop, append-nil, drop-map, take-map, length-map, map-append, reverse-append, take-append-drop}
use Rattle.std.proofs.lemmas.List.Elements.{All-head, All-tail}
use Rattle.std.proofs.lemmas.List.Sums.{prefix_len_passes, prefix_len-le-length}
use Rattle.std.proofs.lemmas.Bool.Decides.{nat_tests}
use Rattle.std.proofs.lemmas.Str.{IsCharBoundary-after_ascii}
use Rattle.std.specs.Cmp.{second_so}
use Rattle.gql_base.proofs.LexicalLaws.StringValues.{border_of_escape}
use Rattle.gql_base.specs.lexical.Characters.{is_line_end}
use Rattle.gql_base.specs.lexical.Pieces.{BeginsWithout}
use Rattle.gql_base.specs.lexical.Blocks.{begins_with_line_feed, begun_with, lines_of, line_end_length, is_white_space, indent, is_blank_line, holds_text, common_indent, unindented, without_blank_front, without_blank_end}
use Rattle.gql_base.proofs.LexicalLaws.Runs.{run_passes, run_stops}

-- ---- lists that are seen through a view

pub prefix_seen : {X Y : Type 0} (p : Y → Bool) (v : X → Y) (xs : List X) → prefix_len (λ x. p (v x)) xs ≡ prefix_len p (map v xs)
prefix_seen p v [] = refl
prefix_seen p v (x ∷ xs) = ap (λ k. cond (p (v x)) (1 + k) 0) (prefix_seen p v xs)

pub filter_seen : {X Y : Type 0} (p : Y → Bool) (v : X → Y) (xs : List X) → map v (filter (λ x. p (v x)) xs) ≡ filter p (map v xs)
filter_seen p v [] = refl
filter_seen p v (x ∷ xs) = elim (cases_Bool (p (v x))) [
  | inl passes ↦ rw passes (ap (λ ys. v x ∷ ys) (filter_seen p v xs))
  | inr fails ↦ rw fails (filter_seen p v xs)
]

pub map_twice : {X Y Z : Type 0} (w : Y → Z) (v : X → Y) (xs : List X) → map (λ x. w (v x)) xs ≡ map w (map v xs)
map_twice w v [] = refl
map_twice w v (x ∷ xs) = ap (λ ys. w (v x) ∷ ys) (map_twice w v xs)

pub reverse_seen : {X Y : Type 0} (v : X → Y) (xs : List X) → map v (reverse xs) ≡ reverse (map v xs)
reverse_seen v [] = refl
reverse_seen v (x ∷ xs) =
    ap (map v) (reverse-append (x ∷ []) xs)
    ∙ map-append v (reverse xs) (x ∷ [])
    ∙ ap (λ ys. ys ++ v x ∷ []) (reverse_seen v xs)
    ∙ sym (reverse-append (v x ∷ []) (map v xs))

pub joined_seen : {X : Type 0} (v : X → List ℕ) (xs : List X) → join_by v (10 ∷ []) xs ≡ join_with_byte 10 (map v xs)
joined_seen v [] = refl
joined_seen v (x ∷ []) = append-nil (v x)
joined_seen v (x ∷ y ∷ xs) = ap (λ ys. v x ++ 10 ∷ ys) (joined_seen v (y ∷ xs))

-- ---- indents

pub indent_seen : {X : Type 0} (v : X → List ℕ) (xs : List X) → unwrap_or (reduce min (map (λ x. indent (v x)) (filter (λ x. holds_text (v x)) xs))) 0 ≡ common_indent (map v xs)
unfolding common_indent
indent_seen v xs =
    ap (λ ns. unwrap_or (reduce min ns) 0) (map_twice indent v (filter (λ x. holds_text (v x)) xs) ∙ ap (map indent) (filter_seen holds_text v xs))

-- no line with text has a smaller indent
HasAtLeast : ℕ → List (List ℕ) → Type 0
HasAtLeast n [] = Unit {0}
HasAtLeast n (l ∷ ls) = (holds_text l ≡ true → n ≤ indent l) × HasAtLeast n ls

least_within : (a : ℕ) (ns : List ℕ) → fold min a ns ≤ a
least_within a [] = omega arith
least_within a (n ∷ ns) = omega (arith, least_within (min a n) ns)

with_text : (l : List ℕ) (ls : List (List ℕ)) → holds_text l ≡ true → map indent (filter holds_text (l ∷ ls)) ≡ indent l ∷ map indent (filter holds_text ls)
with_text l ls holds = rw holds refl

without_text : (l : List ℕ) (ls : List (List ℕ)) → holds_text l ≡ false → map indent (filter holds_text (l ∷ ls)) ≡ map indent (filter holds_text ls)
without_text l ls blank = rw blank refl

not_both : {A : Type 0} (b : Bool) → b ≡ false → b ≡ true → A
not_both b blank holds = absurd (let no : false ≡ true = sym blank ∙ holds in cc)

least_so_far : (a : ℕ) (ls : List (List ℕ)) → HasAtLeast (fold min a (map indent (filter holds_text ls))) ls
unfolding HasAtLeast
least_so_far a [] = tt
least_so_far a (l ∷ ls) = elim (cases_Bool (holds_text l)) [
  | inl holds ↦ subst (λ ns. HasAtLeast (fold min a ns) (l ∷ ls)) (sym (with_text l ls holds))
      (λ is. omega (arith, least_within (min a (indent l)) (map indent (filter holds_text ls))), least_so_far (min a (indent l)) ls)
  | inr blank ↦ subst (λ ns. HasAtLeast (fold min a ns) (l ∷ ls)) (sym (without_text l ls blank)) (λ is. not_both (holds_text l) blank is, least_so_far a ls)
]

least_of_all : (ls : List (List ℕ)) → HasAtLeast (common_indent ls) ls
unfolding HasAtLeast common_indent
least_of_all [] = tt
least_of_all (l ∷ ls) = elim (cases_Bool (holds_text l)) [
  | inl holds ↦ subst (λ ns. HasAtLeast (unwrap_or (reduce min ns) 0) (l ∷ ls)) (sym (with_text l ls holds))
      (λ is. least_within (indent l) (map indent (filter holds_text ls)), least_so_far (indent l) ls)
  | inr blank ↦ subst (λ ns. HasAtLeast (unwrap_or (reduce min ns) 0) (l ∷ ls)) (sym (without_text l ls blank)) (λ is. not_both (holds_text l) blank is, least_of_all ls)
]

drop_up_to : (n m : ℕ) (l : List ℕ) → (n ≤ m) ⊎ (m ≡ length l) → drop (min n m) l ≡ drop n l
drop_up_to n m l (inl within) = ap (λ k. drop k l) (min-eq_left within)
drop_up_to n m l (inr whole) = elim (cases_lt n m) [
  | inl below ↦ ap (λ k. drop k l) (omega (arith, below))
  | inr past ↦ drop_all (min n m) l (omega (arith, past, whole)) ∙ sym (drop_all n l (omega (arith, past, whole)))
]

unindented_is : (n : ℕ) (l : List ℕ) → (holds_text l ≡ true → n ≤ indent l) → unindented n l ≡ drop n l
unindented_is n l least = elim (cases_Bool (is_blank_line l)) [
  | inl blank ↦ drop_up_to n (indent l) l (inr (eqb-true (indent l) (length l) blank))
  | inr holds ↦ drop_up_to n (indent l) l (inl (least (ap not holds)))
]

unindented_are : (n : ℕ) (ls : List (List ℕ)) → HasAtLeast n ls → map (unindented n) ls ≡ map (drop n) ls
unfolding HasAtLeast
unindented_are n [] least = refl
unindented_are n (l ∷ ls) least = rw (unindented_is n l least.0) (ap (λ ys. drop n l ∷ ys) (unindented_are n ls least.1))

pub without_common_indent : (ls : List (List ℕ)) → map (unindented (common_indent ls)) ls ≡ map (drop (common_indent ls)) ls
without_common_indent ls = unindented_are (common_indent ls) ls (least_of_all ls)

pub border_of_indent : (l : List ℕ) (m : ℕ) → IsUtf8 l → 0 < m → m ≤ indent l → IsCharBoundary l m
border_of_indent l m utf8 some within =
    let before : m - 1 + 1 ≡ m = omega (arith, some) in
    subst (IsCharBoundary l) before
    (IsCharBoundary-after_ascii l (m - 1) utf8 (omega (arith, some, within, prefix_len-le-length is_white_space l))
    (white_space_is_ascii (get_or l (m - 1) 0) (prefix_len_passes is_white_space l (m - 1) 0 (omega (arith, some, within)))))
  where
    white_space_is_ascii : (c : ℕ) → is_white_space c ≡ true → c < 128
    white_space_is_ascii c is = grind (arith, nat_tests)

-- ---- lines

line_alone : (c : ℕ) (cs : List ℕ) → is_line_end c ≡ false → lines_of (c ∷ cs) ≡ begun_with c (lines_of cs)
unfolding lines_of
line_alone c cs inside = rw inside (rw (no_return c inside) refl)
  where
    no_return : (c : ℕ) → is_line_end c ≡ false → (c == 13) ≡ false
    no_return c inside = grind (arith, nat_tests)

line_run : (xs rest : List ℕ) (ls : List (List ℕ)) → AllPass (λ c. not (is_line_end c)) xs → lines_of rest ≡ [] ∷ ls → lines_of (xs ++ rest) ≡ xs ∷ ls
line_run [] rest ls all next = next
line_run (x ∷ xs) rest ls all next =
    line_alone x (xs ++ rest) (inside (is_line_end x) (All-head (λ c. not (is_line_end c) ≡ true) x xs all))
    ∙ ap (begun_with x) (line_run xs rest ls (All-tail (λ c. not (is_line_end c) ≡ true) x xs all) next)
  where
    inside : (b : Bool) → not b ≡ true → b ≡ false
    inside true e = absurd (let no : false ≡ true = e in cc)
    inside false e = refl

feed_ends : (cs : List ℕ) → begins_with_line_feed cs ≡ true → lines_of cs ≡ [] ∷ lines_of (drop 1 cs)
unfolding lines_of
feed_ends [] feed = absurd (let no : false ≡ true = feed in cc)
feed_ends (c ∷ cs) feed = rw (eqb-true c 10 feed) refl

line_ends : (rest : List ℕ) → 0 < line_end_length rest → lines_of rest ≡ [] ∷ lines_of (drop (line_end_length rest) rest)
unfolding lines_of
line_ends [] some = absurd (omega (arith, some))
line_ends (c ∷ cs) some = elim (cases_Bool ((c == 13) && begins_with_line_feed cs)) [
  | inl both ↦ rw both (feed_ends cs (second_so (c == 13) (begins_with_line_feed cs) both))
  | inr one ↦ elim (cases_Bool (is_line_end c)) [
    | inl ends ↦ rw one (rw ends refl)
    | inr other ↦ absurd (let none : line_end_length (c ∷ cs) ≡ 0 = rw one (rw other refl) in omega (arith, none, some))
  ]
]

nothing_follows : (rest : List ℕ) → BeginsWithout (λ c. not (is_line_end c)) rest → line_end_length rest ≡ 0 → rest ≡ []
nothing_follows [] ends none = refl
nothing_follows (c ∷ cs) ends none = absurd (elim (cases_Bool ((c == 13) && begins_with_line_feed cs)) [
  | inl both ↦ let two : line_end_length (c ∷ cs) ≡ 2 = rw both refl in omega (arith, two, none)
  | inr one ↦ let size : line_end_length (c ∷ cs) ≡ 1 = rw one (rw (ended (is_line_end c) ends) refl) in omega (arith, size, none)
])
  where
    ended : (b : Bool) → not b ≡ false → b ≡ true
    ended true e = refl
    ended false e = absurd (let no : true ≡ false = e in cc)

lines_of_nothing : (rest : List ℕ) → rest ≡ [] → lines_of rest ≡ [] ∷ []
unfolding lines_of
lines_of_nothing rest none = ap lines_of none

cut_at : (text : List ℕ) (end : ℕ) (ls : List (List ℕ)) → end ≡ prefix_len (λ c. not (is_line_end c)) text → lines_of (drop end text) ≡ [] ∷ ls → lines_of text ≡ take end text ∷ ls
cut_at text end ls is next =
    let plain : AllPass (λ c. not (is_line_end c)) (take end text) = subst (λ k. AllPass (λ c. not (is_line_end c)) (take k text)) (sym is) (run_passes (λ c. not (is_line_end c)) text) in
    ap lines_of (sym (take-append-drop end text)) ∙ line_run (take end text) (drop end text) ls plain next

-- a text without a line end is one line
pub last_line : (text : List ℕ) (end : ℕ) → end ≡ prefix_len (λ c. not (is_line_end c)) text → line_end_length (drop end text) ≡ 0 → lines_of text ≡ text ∷ []
last_line text end is none =
    let rest : drop end text ≡ [] = nothing_follows (drop end text) (subst (λ k. BeginsWithout (λ c. not (is_line_end c)) (drop k text)) (sym is) (run_stops (λ c. not (is_line_end c)) text)) none in
    let whole : take end text ≡ text = sym (append-nil (take end text)) ∙ ap (λ xs. take end text ++ xs) (sym rest) ∙ take-append-drop end text in
    cut_at text end [] is (lines_of_nothing (drop end text) rest) ∙ ap (λ xs. xs ∷ []) whole

-- the first line, and the lines after its end
pub first_of_lines : (text : List ℕ) (end size : ℕ) → end ≡ prefix_len (λ c. not (is_line_end c)) text → size ≡ line_end_length (drop end text) → 0 < size → lines_of text ≡ take end text ∷ lines_of (drop (end + size) text)
first_of_lines text end size is length some =
    cut_at text end (lines_of (drop (end + size) text)) is
    (line_ends (drop end text) (omega (arith, length, some))
    ∙ ap (λ k. [] ∷ lines_of (drop k (drop end text))) (sym length)
    ∙ ap (λ xs. [] ∷ lines_of xs) (drop-drop size end text))

line_end_is_ascii : (xs : List ℕ) → 0 < line_end_length xs → get_or xs (line_end_length xs - 1) 0 < 128
line_end_is_ascii [] some = absurd (omega (arith, some))
line_end_is_ascii (c ∷ cs) some = elim (cases_Bool ((c == 13) && begins_with_line_feed cs)) [
  | inl both ↦ rw both (feed_is_ascii cs (second_so (c == 13) (begins_with_line_feed cs) both))
  | inr one ↦ elim (cases_Bool (is_line_end c)) [
    | inl ends ↦ rw one (rw ends (end_is_ascii c ends))
    | inr other ↦ absurd (let none : line_end_length (c ∷ cs) ≡ 0 = rw one (rw other refl) in omega (arith, none, some))
  ]
]
  where
    feed_is_ascii : (cs : List ℕ) → begins_with_line_feed cs ≡ true → get_or cs 0 0 < 128
    feed_is_ascii [] feed = absurd (let no : false ≡ true = feed in cc)
    feed_is_ascii (d ∷ ds) feed = omega (arith, eqb-true d 10 feed)

    end_is_ascii : (c : ℕ) → is_line_end c ≡ true → c < 128
    end_is_ascii c ends = grind (arith, nat_tests)

pub border_of_line_end : (text : List ℕ) (end size : ℕ) → IsUtf8 text → size ≡ line_end_length (drop end text) → 0 < size → end + size ≤ length text → IsCharBoundary text (end + size)
border_of_line_end text end size utf8 is some within =
    border_of_escape text end size utf8 some within
    (subst (λ k. get_or (drop end text) (k - 1) 0 < 128) (sym is) (line_end_is_ascii (drop end text) (omega (arith, is, some))))

-- how much of a text is left
abbrev pub left_size : Option (List ℕ) → ℕ
left_size None = 0
left_size (Some text) = suc (length text)

-- ---- blank lines

front_seen : {X : Type 0} (v : X → List ℕ) (xs : List X) → map v (drop (prefix_len (λ x. is_blank_line (v x)) xs) xs) ≡ without_blank_front (map v xs)
front_seen v xs =
    sym (drop-map v (prefix_len (λ x. is_blank_line (v x)) xs) xs)
    ∙ ap (λ k. drop k (map v xs)) (prefix_seen is_blank_line v xs)

end_seen : {X : Type 0} (v : X → List ℕ) (xs : List X) → map v (take (length xs - prefix_len (λ x. is_blank_line (v x)) (reverse xs)) xs) ≡ without_blank_end (map v xs)
end_seen v xs =
    sym (take-map v (length xs - prefix_len (λ x. is_blank_line (v x)) (reverse xs)) xs)
    ∙ ap (λ k. take (k - prefix_len (λ x. is_blank_line (v x)) (reverse xs)) (map v xs)) (sym (length-map xs v))
    ∙ ap (λ k. take (length (map v xs) - k) (map v xs)) (prefix_seen is_blank_line v (reverse xs) ∙ ap (prefix_len is_blank_line) (reverse_seen v xs))

pub ends_seen : {X : Type 0} (v : X → List ℕ) (xs ys : List X) (front end : ℕ) → front ≡ prefix_len (λ x. is_blank_line (v x)) xs → ys ≡ drop front xs → end ≡ prefix_len (λ x. is_blank_line (v x)) (reverse ys) → map v (take (length ys - end) ys) ≡ without_blank_end (without_blank_front (map v xs))
ends_seen v xs ys front end first rest last =
    ap (λ k. map v (take (length ys - k) ys)) last
    ∙ end_seen v ys
    ∙ ap (λ zs. without_blank_end (map v zs)) (rest ∙ ap (λ k. drop k xs) first)
    ∙ ap without_blank_end (front_seen v xs)
