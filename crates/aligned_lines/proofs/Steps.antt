-- Going on by one cell, and by one column.
use Rattle.std.proofs.Common.{◌≡◌, ⊎_elim, ℕ, suc, ◌+◌, ◌<◌, ◌≤◌, Bool, List, [], ◌∷◌, ◌++◌, length, drop, get_or, sym, ap, ◌∙◌, subst, arith, drop-cons}
use Rattle.std.proofs.Math.Nat.{eq-or-lt_of_le}
use Rattle.std.proofs.lemmas.List.{append_assoc, append-nil, drop_all, get_or_append_left, get_or_push, length_push}
use Rattle.aligned_lines.specs.Aligned.{Cells, widest, cell_text, line_text, AreWidths}

module _ (left : List Bool) (lines : List Cells) (cells : Cells) where
  pub cell_written : (column : ℕ) (cell before after whole : List ℕ) → column < length cells → cell ≡ get_or cells column cell → after ≡ before ++ cell_text left lines column cell
      → before ++ line_text left lines column (drop column cells) ≡ whole → after ++ line_text left lines (column + 1) (drop (column + 1) cells) ≡ whole
  unfolding line_text
  cell_written column cell before after whole within is pushed held =
      let next : column + 1 ≡ suc column = omega arith in
      let front : drop column cells ≡ cell ∷ drop (suc column) cells = drop-cons cells column cell within ∙ ap (λ (c : List ℕ). c ∷ drop (suc column) cells) (sym is) in
      ap (λ (k : ℕ). after ++ line_text left lines k (drop k cells)) next
      ∙ (ap (λ (xs : List ℕ). xs ++ line_text left lines (suc column) (drop (suc column) cells)) pushed
      ∙ (append_assoc before (cell_text left lines column cell) (line_text left lines (suc column) (drop (suc column) cells))
      ∙ (ap (λ (cs : Cells). before ++ line_text left lines column cs) (sym front) ∙ held)))

  pub line_written : (column : ℕ) (before whole : List ℕ) → length cells ≤ column → before ++ line_text left lines column (drop column cells) ≡ whole → before ≡ whole
  unfolding line_text
  line_written column before whole past held = sym (append-nil before) ∙ (ap (λ (cs : Cells). before ++ line_text left lines column cs) (sym (drop_all column cells past)) ∙ held)

pub one_width : (lines : List Cells) (widths more : List ℕ) (column width : ℕ) → AreWidths lines widths → length widths ≡ column → width ≡ widest column lines → more ≡ widths ++ width ∷ [] → AreWidths lines more × (length more ≡ column + 1)
one_width lines widths more column width are long is pushed = (
  subst (AreWidths lines) (sym pushed) (λ (at : ℕ) (inside : at < length (widths ++ width ∷ [])).
      ⊎_elim
      (λ (last : at ≡ length widths). get_or_push widths width 0 at (sym last) ∙ (is ∙ ap (λ (k : ℕ). widest k lines) (sym (last ∙ long))))
      (λ (earlier : at < length widths). get_or_append_left widths (width ∷ []) 0 at earlier ∙ are at earlier)
      (let one = length_push widths width in let most : at ≤ length widths = omega arith in eq-or-lt_of_le most)),
  ap length pushed ∙ (length_push widths width ∙ ap (λ (k : ℕ). k + 1) long),
)
