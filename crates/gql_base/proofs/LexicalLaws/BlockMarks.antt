-- Marks in block strings that a `\` stands before, and the bytes between them.
use Rattle.std.proofs.Common.{◌≡◌, ℕ, suc, ◌+◌, ◌-◌, ◌<◌, ◌≤◌, Bool, true, false, not, ◌==◌, ◌&&◌, List, [], ◌∷◌, ◌++◌, length, take, drop, get_or, refl, sym, ap, ◌∙◌, arith}
use Rattle.std.specs.List.{AllPass, prefix_len}
use Rattle.std.proofs.lemmas.Bool.{eqb-true, and_parts}
use Rattle.std.proofs.lemmas.List.{drop-drop, drop_all, take-append-drop}
use Rattle.std.proofs.lemmas.List.Elements.{All-head, All-tail}
use Rattle.gql_base.specs.lexical.Strings.{begins_with_marks}
use Rattle.gql_base.specs.lexical.Scans.{is_plain_byte}
use Rattle.gql_base.specs.lexical.Blocks.{unescaped}
use Rattle.gql_base.proofs.LexicalLaws.Runs.{run_passes}
use Rattle.gql_base.proofs.LexicalLaws.StringScans.{drop_head}

pub escaped_marks : (c : ℕ) (cs : List ℕ) → ((c == 92) && begins_with_marks cs) ≡ true → unescaped (c ∷ cs) ≡ unescaped cs
unfolding unescaped
escaped_marks c cs is = rw is refl

pub other_byte : (c : ℕ) (cs : List ℕ) → ((c == 92) && begins_with_marks cs) ≡ false → unescaped (c ∷ cs) ≡ c ∷ unescaped cs
unfolding unescaped
other_byte c cs is = rw is refl

marks_stay : (cs : List ℕ) → begins_with_marks cs ≡ true → unescaped cs ≡ 34 ∷ 34 ∷ 34 ∷ unescaped (drop 3 cs)
unfolding unescaped
marks_stay [] is = absurd (let no : false ≡ true = is in cc)
marks_stay (a ∷ []) is = absurd (let no : false ≡ true = is in cc)
marks_stay (a ∷ b ∷ []) is = absurd (let no : false ≡ true = is in cc)
marks_stay (a ∷ b ∷ c ∷ cs) is =
    let last = and_parts ((a == 34) && (b == 34)) (c == 34) is in
    let others = and_parts (a == 34) (b == 34) last.0 in
    rw (eqb-true a 34 others.0) (rw (eqb-true b 34 others.1) (rw (eqb-true c 34 last.1) refl))

plain_bytes : (xs rest : List ℕ) → AllPass is_plain_byte xs → unescaped (xs ++ rest) ≡ xs ++ unescaped rest
plain_bytes [] rest all = refl
plain_bytes (x ∷ xs) rest all =
    other_byte x (xs ++ rest) (none (x == 92) (begins_with_marks (xs ++ rest)) (All-head (λ c. is_plain_byte c ≡ true) x xs all))
    ∙ ap (λ ys. x ∷ ys) (plain_bytes xs rest (All-tail (λ c. is_plain_byte c ≡ true) x xs all))
  where
    none : (a b : Bool) → not a ≡ true → (a && b) ≡ false
    none true b e = absurd (let no : false ≡ true = e in cc)
    none false b e = refl

-- ---- at a place of a text

pub copy_of_marks : (text : List ℕ) (at : ℕ) → at < length text → ((get_or text at 0 == 92) && begins_with_marks (drop (at + 1) text)) ≡ true → unescaped (drop at text) ≡ (34 ∷ 34 ∷ 34 ∷ []) ++ unescaped (drop (at + 4) text)
copy_of_marks text at below is =
    let place : at + 1 + 3 ≡ at + 4 = omega arith in
    ap unescaped (drop_head text at below)
    ∙ escaped_marks (get_or text at 0) (drop (at + 1) text) is
    ∙ marks_stay (drop (at + 1) text) (and_parts (get_or text at 0 == 92) (begins_with_marks (drop (at + 1) text)) is).1
    ∙ ap (λ xs. 34 ∷ 34 ∷ 34 ∷ unescaped xs) (drop-drop 3 (at + 1) text ∙ ap (λ k. drop k text) place)

-- a byte that isn't a `\` before marks, and the bytes up to the next `\`
pub copy_of_run : (text : List ℕ) (at end : ℕ) → at < length text → ((get_or text at 0 == 92) && begins_with_marks (drop (at + 1) text)) ≡ false → end ≡ at + 1 + prefix_len is_plain_byte (drop (at + 1) text) → unescaped (drop at text) ≡ take (end - at) (drop at text) ++ unescaped (drop end text)
copy_of_run text at end below other is =
    let m : ℕ = prefix_len is_plain_byte (drop (at + 1) text) in
    let head : drop at text ≡ get_or text at 0 ∷ drop (at + 1) text = drop_head text at below in
    let run : drop (at + 1) text ≡ take m (drop (at + 1) text) ++ drop m (drop (at + 1) text) = sym (take-append-drop m (drop (at + 1) text)) in
    let rest : drop m (drop (at + 1) text) ≡ drop end text = drop-drop m (at + 1) text ∙ ap (λ k. drop k text) (sym is) in
    let size : end - at ≡ suc m = omega (arith, is) in
    let taken : take (end - at) (drop at text) ≡ get_or text at 0 ∷ take m (drop (at + 1) text) = ap (λ k. take k (drop at text)) size ∙ ap (take (suc m)) head in
    ap unescaped head
    ∙ other_byte (get_or text at 0) (drop (at + 1) text) other
    ∙ ap (λ xs. get_or text at 0 ∷ unescaped xs) run
    ∙ ap (λ xs. get_or text at 0 ∷ xs) (plain_bytes (take m (drop (at + 1) text)) (drop m (drop (at + 1) text)) (run_passes is_plain_byte (drop (at + 1) text)))
    ∙ ap (λ xs. get_or text at 0 ∷ (take m (drop (at + 1) text) ++ unescaped xs)) rest
    ∙ sym (ap (λ xs. xs ++ unescaped (drop end text)) taken)

pub copy_of_none : (text : List ℕ) (at : ℕ) → length text ≤ at → unescaped (drop at text) ≡ []
unfolding unescaped
copy_of_none text at past = ap unescaped (drop_all at text past)

-- the last of the marks after a `\`
pub mark_is_ascii : (text : List ℕ) (at : ℕ) → at < length text → begins_with_marks (drop (at + 1) text) ≡ true → get_or (drop at text) 3 0 < 128
mark_is_ascii text at below is = rw (drop_head text at below) (third (drop (at + 1) text) is)
  where
    third : (cs : List ℕ) → begins_with_marks cs ≡ true → get_or cs 2 0 < 128
    third [] e = omega arith
    third (a ∷ []) e = omega arith
    third (a ∷ b ∷ []) e = omega arith
    third (a ∷ b ∷ c ∷ cs) e = omega (arith, eqb-true c 34 (and_parts ((a == 34) && (b == 34)) (c == 34) e).1)
