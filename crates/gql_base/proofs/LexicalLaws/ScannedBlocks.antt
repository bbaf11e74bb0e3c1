-- Bytes are block string characters exactly where scanning finds no fault among them and the first three marks after them
-- close.
use Rattle.std.proofs.Common.{ℕ, zero, suc, ◌+◌, ◌≡◌, ◌≤◌, inl, inr, Bool, true, false, List, [], ◌∷◌, ◌++◌, None, Some, length, refl, sym, ap, ◌∙◌, arith}
use Rattle.std.specs.Prelude.{◌==◌, ◌&&◌, nat_lt, if◌then◌else◌}
use Rattle.std.specs.List.{prefix_len}
use Rattle.std.proofs.lemmas.Bool.{cases_Bool, eqb-true, and_parts}
use Rattle.std.proofs.lemmas.Bool.Decides.{nat_tests}
use Rattle.std.proofs.lemmas.List.Sums.{prefix_len-le-length}
use Rattle.std.proofs.lemmas.Option.{same_Some}
use Rattle.gql_base.specs.lexical.Characters.{is_block_byte}
use Rattle.gql_base.specs.lexical.Strings.{begins_with_marks}
use Rattle.gql_base.specs.lexical.Scans.{block_closed_at, block_fault, block_fault_after}
use Rattle.gql_base.specs.lexical.Blocks.{unescaped}
use Rattle.gql_base.specs.lexical.BlockStrings.{BlockCharacter, escaped_marks, other, marks, block_characters_bytes, AreApart, AreBlockCharacters, IsBlockBody, block_characters_value}
use Rattle.gql_base.proofs.LexicalLaws.StringScans.{block_later}

-- ---- characters are scanned

-- what comes after three marks doesn't matter
no_mark_after : (b : ℕ) (xs after : List ℕ) → begins_with_marks (b ∷ (xs ++ (marks ++ after))) ≡ begins_with_marks (b ∷ (xs ++ marks))
no_mark_after b [] after = refl
no_mark_after b (x ∷ []) after = refl
no_mark_after b (x ∷ y ∷ xs) after = refl

no_marks_after : (xs after : List ℕ) → begins_with_marks (xs ++ (marks ++ after)) ≡ begins_with_marks (xs ++ marks)
no_marks_after [] after = refl
no_marks_after (x ∷ []) after = refl
no_marks_after (x ∷ y ∷ []) after = refl
no_marks_after (x ∷ y ∷ z ∷ xs) after = refl

pub unclosed : (cs : List BlockCharacter) (after : List ℕ) (at : ℕ) → AreApart cs → block_closed_at 0 at (block_characters_bytes cs ++ (marks ++ after)) ≡ Some (at + length (block_characters_bytes cs))
unfolding block_closed_at
unclosed [] after at apart = ap Some (let e : at ≡ at + 0 = omega arith in e)
unclosed (escaped_marks ∷ cs) after at apart = unclosed cs after (at + 1 + 1 + 1 + 1) apart ∙ ap Some (omega arith)
unclosed (other b ∷ cs) after at apart =
    let xs = block_characters_bytes cs in
    block_later b at (xs ++ (marks ++ after)) (no_mark_after b xs after ∙ apart.0.0) (ap (λ t. (b == 92) && t) (no_marks_after xs after) ∙ apart.0.1)
    ∙ (unclosed cs after (at + 1) apart.1 ∙ ap Some (omega arith))

all_block : (cs : List BlockCharacter) → AreBlockCharacters cs → prefix_len is_block_byte (block_characters_bytes cs) ≡ length (block_characters_bytes cs)
all_block [] are = refl
all_block (escaped_marks ∷ cs) are = ap (λ (n : ℕ). 1 + (1 + (1 + (1 + n)))) (all_block cs are) ∙ omega arith
all_block (other b ∷ cs) are = rw (are.0) (ap (λ (n : ℕ). 1 + n) (all_block cs are.1) ∙ omega arith)

no_block_fault : (good all : ℕ) → good ≡ all → block_fault_after 3 good all ≡ None
no_block_fault good all e = let n : nat_lt good all ≡ false = grind (arith, nat_tests) in rw n refl

pub block_body_faultless : (cs : List BlockCharacter) (body : List ℕ) → IsBlockBody cs body → block_fault 3 body ≡ None
block_body_faultless cs body is = no_block_fault (prefix_len is_block_byte body) (length body) (ap (prefix_len is_block_byte) is.cut ∙ (all_block cs is.are ∙ ap length (sym is.cut)))

pub block_body_closed : (cs : List BlockCharacter) (body after : List ℕ) → IsBlockBody cs body → block_closed_at 0 3 (body ++ 34 ∷ 34 ∷ 34 ∷ after) ≡ Some (3 + length body)
block_body_closed cs body after is = ap (λ xs. block_closed_at 0 3 (xs ++ (marks ++ after))) is.cut ∙ (unclosed cs after 3 is.apart ∙ ap (λ xs. Some (3 + length xs)) (sym is.cut))

-- ---- what is scanned are characters

-- bytes between marks, as characters
pub record BlockCut (body : List ℕ) : Type 0 where
  pub cs : List BlockCharacter
  pub cut : body ≡ block_characters_bytes cs
  pub apart : AreApart cs

-- the closing marks don't stand before the place that is looked at
closed_later : (n at k : ℕ) (xs : List ℕ) → block_closed_at n at xs ≡ Some k → at + n ≤ k
unfolding block_closed_at
closed_later n at k [] e = absurd (cc)
closed_later (suc n) at k (c ∷ cs) e = let h = closed_later n (at + 1) k cs e in omega (arith, h)
closed_later zero at k (c ∷ cs) e = elim (cases_Bool (begins_with_marks (c ∷ cs))) [
  | inl t ↦ let same : at ≡ k = same_Some at k (rw t at e) in omega (arith, same)
  | inr f ↦ let h = closed_later (if (c == 92) && begins_with_marks cs then 3 else 0) (at + 1) k cs (rw f at e) in omega (arith, h)
]

-- `\` and three marks, where the closing marks come after them
marks_in : (rest after : List ℕ) (at : ℕ) → begins_with_marks (rest ++ (marks ++ after)) ≡ true → at + 4 ≤ at + suc (length rest) → (xs : List ℕ) × (rest ≡ marks ++ xs)
marks_in [] after at t far = absurd (omega (arith, far))
marks_in (x ∷ []) after at t far = absurd (omega (arith, far))
marks_in (x ∷ y ∷ []) after at t far = absurd (omega (arith, far))
marks_in (x ∷ y ∷ z ∷ xs) after at t far =
    let p = and_parts ((x == 34) && (y == 34)) (z == 34) t in let q = and_parts (x == 34) (y == 34) p.0 in
    (xs, ap (λ (c : ℕ). c ∷ y ∷ z ∷ xs) (eqb-true x 34 q.0) ∙ (ap (λ (c : ℕ). 34 ∷ c ∷ z ∷ xs) (eqb-true y 34 q.1) ∙ ap (λ (c : ℕ). 34 ∷ 34 ∷ c ∷ xs) (eqb-true z 34 p.1)))

past_marks : (xs after : List ℕ) (at : ℕ) → block_closed_at 0 at (92 ∷ (marks ++ (xs ++ after))) ≡ block_closed_at 0 (at + 4) (xs ++ after)
unfolding block_closed_at
past_marks xs after at = ap (λ n. block_closed_at 0 n (xs ++ after)) (let e : at + 1 + 1 + 1 + 1 ≡ at + 4 = omega arith in e)

after_slash : (b at k : ℕ) (rest : List ℕ) → begins_with_marks (b ∷ rest) ≡ false → ((b == 92) && begins_with_marks rest) ≡ true → block_closed_at 0 at (b ∷ rest) ≡ Some k → at + 4 ≤ k
unfolding block_closed_at
after_slash b at k rest n t e = let h = closed_later 3 (at + 1) k rest (rw (n, t) at e) in omega (arith, h)

no_closing : (b at k : ℕ) (rest : List ℕ) → begins_with_marks (b ∷ rest) ≡ true → block_closed_at 0 at (b ∷ rest) ≡ Some k → at ≡ k
unfolding block_closed_at
no_closing b at k rest t e = same_Some at k (rw t at e)

with_marks : (b : ℕ) (body xs : List ℕ) → (b == 92) ≡ true → body ≡ marks ++ xs → BlockCut xs → BlockCut (b ∷ body)
with_marks b body xs slash cut rest = record {
  cs = escaped_marks ∷ rest.cs;
  cut = ap (λ (c : ℕ). c ∷ body) (eqb-true b 92 slash) ∙ (ap (λ (l : List ℕ). 92 ∷ l) (cut ∙ ap (λ (l : List ℕ). marks ++ l) rest.cut));
  apart = rest.apart;
}

with_other : (b : ℕ) (body after : List ℕ) → begins_with_marks (b ∷ (body ++ (marks ++ after))) ≡ false → ((b == 92) && begins_with_marks (body ++ (marks ++ after))) ≡ false → BlockCut body → BlockCut (b ∷ body)
with_other b body after n m rest = record {
  cs = other b ∷ rest.cs;
  cut = ap (λ (l : List ℕ). b ∷ l) rest.cut;
  apart = ((ap (λ (l : List ℕ). begins_with_marks (b ∷ (l ++ marks))) (sym rest.cut) ∙ (sym (no_mark_after b body after) ∙ n), ap (λ (l : List ℕ). (b == 92) && begins_with_marks (l ++ marks)) (sym rest.cut) ∙ (ap (λ t. (b == 92) && t) (sym (no_marks_after body after)) ∙ m)), rest.apart);
}

three_more : (xs : List ℕ) → length (marks ++ xs) ≡ 3 + length xs
three_more xs = omega arith

cut_within : (n : ℕ) (body after : List ℕ) (at : ℕ) → length body ≤ n → block_closed_at 0 at (body ++ (marks ++ after)) ≡ Some (at + length body) → BlockCut body
cut_within n [] after at short closed = record { cs = []; cut = refl; apart = tt }
cut_within zero (b ∷ body) after at short closed = absurd (omega (arith, short))
cut_within (suc n) (b ∷ body) after at short closed =
    elim (cases_Bool (begins_with_marks (b ∷ (body ++ (marks ++ after))))) [
      | inl t ↦ absurd (let e = no_closing b at (at + suc (length body)) (body ++ (marks ++ after)) t closed in omega (arith, e))
      | inr f ↦ elim (cases_Bool ((b == 92) && begins_with_marks (body ++ (marks ++ after)))) [
        | inl t ↦
            let p = and_parts (b == 92) (begins_with_marks (body ++ (marks ++ after))) t in
            let m = marks_in body after at p.1 (after_slash b at (at + suc (length body)) (body ++ (marks ++ after)) f t closed) in
            let size : length body ≡ 3 + length m.0 = omega (arith, three_more m.0, ap length m.1) in
            with_marks b body m.0 p.0 m.1 (cut_within n m.0 after (at + 4) (omega (arith, short, size))
            (sym (past_marks m.0 (marks ++ after) at) ∙ (ap (block_closed_at 0 at) (sym (ap (λ (c : ℕ). c ∷ (body ++ (marks ++ after))) (eqb-true b 92 p.0) ∙ ap (λ (l : List ℕ). 92 ∷ (l ++ (marks ++ after))) m.1)) ∙ (closed ∙ ap Some (omega (arith, size))))))
        | inr s ↦ with_other b body after f s (cut_within n body after (at + 1) (omega (arith, short)) (sym (block_later b at (body ++ (marks ++ after)) f s) ∙ (closed ∙ ap Some (omega arith))))
      ]
    ]

pub block_cut : (body after : List ℕ) (at : ℕ) → block_closed_at 0 at (body ++ (marks ++ after)) ≡ Some (at + length body) → BlockCut body
block_cut body after at closed = cut_within (length body) body after at (omega arith) closed

-- ---- none is a control character

all_good : (good all : ℕ) → good ≤ all → block_fault_after 3 good all ≡ None → good ≡ all
all_good good all le e = elim (cases_Bool (nat_lt good all)) [
  | inl t ↦ absurd (let bad = rw t at e in cc)
  | inr f ↦ grind (arith, nat_tests)
]

are_good : (cs : List BlockCharacter) → prefix_len is_block_byte (block_characters_bytes cs) ≡ length (block_characters_bytes cs) → AreBlockCharacters cs
are_good [] e = tt
are_good (escaped_marks ∷ cs) e = are_good cs (fewer (prefix_len is_block_byte (block_characters_bytes cs)) (length (block_characters_bytes cs)) e)
  where
    fewer : (a b : ℕ) → 1 + (1 + (1 + (1 + a))) ≡ suc (suc (suc (suc b))) → a ≡ b
    fewer a b e = omega (arith, e)
are_good (other b ∷ cs) e = elim (cases_Bool (is_block_byte b)) [
  | inl t ↦ (t, are_good cs (let h : 1 + prefix_len is_block_byte (block_characters_bytes cs) ≡ suc (length (block_characters_bytes cs)) = rw t at e in omega (arith, h)))
  | inr f ↦ absurd (let h : 0 ≡ suc (length (block_characters_bytes cs)) = rw f at e in omega (arith, h))
]

pub block_body_scanned : (body after : List ℕ) → block_fault 3 body ≡ None → block_closed_at 0 3 (body ++ 34 ∷ 34 ∷ 34 ∷ after) ≡ Some (3 + length body) → (cs : List BlockCharacter) × IsBlockBody cs body
block_body_scanned body after faultless closed =
    let c = block_cut body after 3 closed in
    let good = all_good (prefix_len is_block_byte body) (length body) (prefix_len-le-length is_block_byte body) faultless in
    (c.cs, record { cut = c.cut; apart = c.apart; are = are_good c.cs (ap (prefix_len is_block_byte) (sym c.cut) ∙ (good ∙ ap length c.cut)) })

-- ---- what characters stand for

no_test : (b : Bool) → b && false ≡ false
no_test true = refl
no_test false = refl

no_marks_alone : (b : ℕ) (xs : List ℕ) → ((b == 92) && begins_with_marks (xs ++ marks)) ≡ false → ((b == 92) && begins_with_marks xs) ≡ false
no_marks_alone b [] e = no_test (b == 92)
no_marks_alone b (x ∷ []) e = no_test (b == 92)
no_marks_alone b (x ∷ y ∷ []) e = no_test (b == 92)
no_marks_alone b (x ∷ y ∷ z ∷ xs) e = e

unescaped_all : (cs : List BlockCharacter) → AreApart cs → unescaped (block_characters_bytes cs) ≡ block_characters_value cs
unfolding unescaped
unescaped_all [] apart = refl
unescaped_all (escaped_marks ∷ cs) apart = ap (λ (l : List ℕ). marks ++ l) (unescaped_all cs apart)
unescaped_all (other b ∷ cs) apart = rw (no_marks_alone b (block_characters_bytes cs) apart.0.1) (ap (λ (l : List ℕ). b ∷ l) (unescaped_all cs apart.1))

pub block_body_value : (cs : List BlockCharacter) (body : List ℕ) → IsBlockBody cs body → unescaped body ≡ block_characters_value cs
block_body_value cs body is = ap unescaped is.cut ∙ unescaped_all cs is.apart
