-- The tables, made one after the other.
use Rattle.std.proofs.Common.{◌≡◌, ◌≢◌, ℕ, zero, suc, ◌+◌, ◌<◌, ◌≤◌, List, [], ◌∷◌, take, map, nat_eq, false, refl, sym, ap, subst, ◌∙◌, inl, inr, IsTrue, arith}
use Rattle.std.specs.List.{AllByRecursion}
use Rattle.std.proofs.lemmas.Bool.{cases_eq, cases_lt, cond-true, cond-false, eq-eqb, ne_eqb}
use Rattle.sqlite_value.specs.declared.value.Value.TheVariants.{Text}
use Rattle.sqlite_value.specs.Order.{Row, column}
use Rattle.sqlite_trees.specs.Tree.{Trees, put_row, with_tree}
use Rattle.sqlite_trees.specs.View.{View, IsClean, SetsTree, OnlyCommits, doubt}
use Rattle.sqlite_trees.specs.Objects.{catalog_tree, version_tree, version_rows, object_row, Creates, IsFreeFor}
use Rattle.sqlite_trees.specs.declared.schema.Object.{Object}
use Rattle.sqlite_trees.specs.declared.store.Shape.{Shape}
use Rattle.sqlite_trees.specs.declared.store.Shape.TheVariants.{Table, Absent}
use Rattle.store_trees.specs.Tables.{meta_tree, meta_entry}
use Rattle.store_trees.specs.Making.{table_name, catalog_row, catalog_rows, IsMaking, HasShapes, AreEmpty, AreMade}
use Rattle.store_trees.specs.Keeping.{AreTables}
use Rattle.store_trees.proofs.Sequences.{was_clean}
use Rattle.store_trees.proofs.Rowids.{id_below, put_last}

pub four_cases : (P : ℕ → Type 0) → P 0 → P 1 → P 2 → P 3 → (t : ℕ) → t < 4 → P t
four_cases P a b c d zero low = a
four_cases P a b c d (suc zero) low = b
four_cases P a b c d (suc (suc zero)) low = c
four_cases P a b c d (suc (suc (suc zero))) low = d
four_cases P a b c d (suc (suc (suc (suc t)))) low = absurd (omega (arith, low))

pub next_row : (tree : ℕ) → tree < 4 → put_row (catalog_row tree) (take tree catalog_rows) ≡ take (tree + 1) catalog_rows
next_row = four_cases (λ t. put_row (catalog_row t) (take t catalog_rows) ≡ take (t + 1) catalog_rows)
    refl
    (put_last (catalog_row 1) (catalog_row 0 ∷ []) (id_below 1 2 (omega arith), tt))
    (put_last (catalog_row 2) (catalog_row 0 ∷ catalog_row 1 ∷ []) (id_below 1 3 (omega arith), (id_below 2 3 (omega arith), tt)))
    (put_last (catalog_row 3) (catalog_row 0 ∷ catalog_row 1 ∷ catalog_row 2 ∷ []) (id_below 1 4 (omega arith), (id_below 2 4 (omega arith), (id_below 3 4 (omega arith), tt))))

is_unnamed : (tree : ℕ) → tree < 4 → AllByRecursion (λ r. column r 2 ≢ Text (table_name tree)) (take tree catalog_rows)
is_unnamed =
    four_cases (λ t. AllByRecursion (λ r. column r 2 ≢ Text (table_name t)) (take t catalog_rows))
    tt
    ((λ e. cc), tt)
    ((λ e. cc), ((λ e. cc), tt))
    ((λ e. cc), ((λ e. cc), ((λ e. cc), tt)))

pub may_make : (v : View) (tree : ℕ) (o : Object) → tree < 4 → IsMaking v tree → o.shape ≡ Table → o.name.now ≡ table_name tree → IsFreeFor v tree o
may_make v tree o low m shape name = record {
  numbered = m.numbered;
  low = omega (arith, low);
  unused = m.free tree (omega arith) low;
  shaped = λ e. let both = sym shape ∙ e in cc;
  thawed = rw (shape) refl;
  unnamed = rw (name, m.listed) (is_unnamed tree low);
}

other_tree : (trees : Trees) (tree t : ℕ) (objects : List Row) → t < 4 → with_tree (with_tree trees tree []) catalog_tree objects t ≡ with_tree trees tree [] t
other_tree trees tree t objects low = cond-false (nat_eq t catalog_tree) objects _ (ne_eqb t catalog_tree (λ e. omega (arith, low, e)))

pub making_on : (old new : View) (tree : ℕ) (o : Object) → tree < 4 → IsMaking old tree → object_row tree o ≡ catalog_row tree → o.shape ≡ Table → o.reals ≡ 0 → Creates old new tree o
    → IsMaking new (tree + 1)
making_on old new tree o low m row shape reals c = record {
  sound = ap (λ (v : View). v.is_broken) c.is ∙ m.sound;
  numbered = subst (λ (v : View). IsTrue v.is_numbered) (sym c.is) m.numbered;
  listed =
      ap (λ (v : View). v.trees catalog_tree) c.is
      ∙ (ap (λ r. put_row r (old.trees catalog_tree)) row ∙ (ap (put_row (catalog_row tree)) m.listed ∙ next_row tree low));
  made = λ t below. elim (cases_eq t tree) [
    | inl same ↦ (
      ap (λ (v : View). v.shape t) c.is ∙ (cond-true (nat_eq t tree) o.shape (old.shape t) (eq-eqb t tree same) ∙ shape),
      ap (λ (v : View). v.trees t) c.is ∙ (other_tree old.trees tree t _ (omega (arith, below, low)) ∙ cond-true (nat_eq t tree) [] (old.trees t) (eq-eqb t tree same)),
    )
    | inr other ↦
        let before = m.made t (lower t below other) in
        let none = ne_eqb t tree other in (
          ap (λ (v : View). v.shape t) c.is ∙ (cond-false (nat_eq t tree) o.shape (old.shape t) none ∙ before.0),
          ap (λ (v : View). v.trees t) c.is ∙ (other_tree old.trees tree t _ (omega (arith, below, low)) ∙ (cond-false (nat_eq t tree) [] (old.trees t) none ∙ before.1)),
        )
  ];
  plain = λ t below. elim (cases_eq t tree) [
    | inl same ↦ ap (λ (v : View). v.reals t) c.is ∙ (cond-true (nat_eq t tree) o.reals (old.reals t) (eq-eqb t tree same) ∙ reals)
    | inr other ↦ ap (λ (v : View). v.reals t) c.is ∙ (cond-false (nat_eq t tree) o.reals (old.reals t) (ne_eqb t tree other) ∙ m.plain t (lower t below other))
  ];
  free = λ t above four. ap (λ (v : View). v.shape t) c.is ∙ (cond-false (nat_eq t tree) o.shape (old.shape t) (ne_eqb t tree (λ e. omega (arith, e, above))) ∙ m.free t (omega (arith, above)) four);
}
  where
    lower : (t : ℕ) → t < tree + 1 → (t ≡ tree → ⊥) → t < tree
    lower t below other = elim (cases_lt t tree) [ inl it ↦ it | inr past ↦ absurd (other (omega (arith, below, past))) ]

-- the two rows of `meta` are put behind each other
pub said : (old mid new : View) (seconds : ℕ) → IsMaking old 4 → SetsTree old mid meta_tree (put_row (meta_entry 1 1)) → SetsTree mid new meta_tree (put_row (meta_entry 2 seconds))
    → AreEmpty new.trees seconds × HasShapes new
said old mid new seconds m one two =
    let first : mid.trees meta_tree ≡ meta_entry 1 1 ∷ [] = ap (λ (v : View). v.trees meta_tree) one.is ∙ ap (put_row (meta_entry 1 1)) (m.made 0 (omega arith)).1 in
    let other : (t : ℕ) → nat_eq t meta_tree ≡ false → new.trees t ≡ old.trees t = λ t none.
    ap (λ (v : View). v.trees t) two.is ∙ (cond-false (nat_eq t meta_tree) _ (mid.trees t) none ∙ (ap (λ (v : View). v.trees t) one.is ∙ cond-false (nat_eq t meta_tree) _ (old.trees t) none)) in
    let shape : new.shape ≡ old.shape = ap (λ (v : View). v.shape) two.is ∙ ap (λ (v : View). v.shape) one.is in (
      record {
        listed = ap (map (take 5)) (other catalog_tree refl ∙ m.listed);
        meta = ap (λ (v : View). v.trees meta_tree) two.is ∙ (ap (put_row (meta_entry 2 seconds)) first ∙ rw (id_below 1 2 (omega arith)) refl);
        clients = other 1 refl ∙ (m.made 1 (omega arith)).1;
        accounts = other 2 refl ∙ (m.made 2 (omega arith)).1;
        grants = other 3 refl ∙ (m.made 3 (omega arith)).1;
      },
      (
        ap (λ s. s 0) shape ∙ (m.made 0 (omega arith)).0,
        ap (λ s. s 1) shape ∙ (m.made 1 (omega arith)).0,
        ap (λ s. s 2) shape ∙ (m.made 2 (omega arith)).0,
        ap (λ s. s 3) shape ∙ (m.made 3 (omega arith)).0,
      ),
    )

-- and the mark beside them
pub marked : (old new : View) (seconds : ℕ) → AreEmpty old.trees seconds → HasShapes old → SetsTree old new version_tree (λ _. version_rows 0x5443_4b31) → AreMade new.trees seconds × HasShapes new
marked old new seconds empty shapes one =
    let other : (t : ℕ) → nat_eq t version_tree ≡ false → new.trees t ≡ old.trees t = λ t none.
    ap (λ (v : View). v.trees t) one.is ∙ cond-false (nat_eq t version_tree) _ (old.trees t) none in (
      record {
        empty = record {
          listed = ap (map (take 5)) (other catalog_tree refl) ∙ empty.listed;
          meta = other 0 refl ∙ empty.meta;
          clients = other 1 refl ∙ empty.clients;
          accounts = other 2 refl ∙ empty.accounts;
          grants = other 3 refl ∙ empty.grants;
        };
        marked = ap (λ (v : View). v.trees version_tree) one.is;
      },
      subst (λ (s : ℕ → Shape). (s 0 ≡ Table) × (s 1 ≡ Table) × (s 2 ≡ Table) × (s 3 ≡ Table)) (sym (ap (λ (v : View). v.shape) one.is)) shapes,
    )

pub set_sound : (old new : View) (tree : ℕ) (edit : List Row → List Row) → SetsTree old new tree edit → new.is_broken ≡ false
set_sound old new tree edit s = ap (λ (v : View). v.is_broken) s.is ∙ s.sound

-- nothing is made yet
pub none_made : (v : View) → v.is_broken ≡ false → IsTrue v.is_numbered → v.trees catalog_tree ≡ [] → v.shape 0 ≡ Absent → v.shape 1 ≡ Absent → v.shape 2 ≡ Absent → v.shape 3 ≡ Absent → IsMaking v 0
none_made v sound numbered none a b c d = record {
  sound = sound;
  numbered = numbered;
  listed = none;
  made = λ t below. absurd (omega (arith, below));
  plain = λ t below. absurd (omega (arith, below));
  free = λ t above low. four_cases (λ n. v.shape n ≡ Absent) a b c d t low;
}

-- the tables behind a commit
pub tables_made : (mid new : View) → doubt mid.is_clean ≤ doubt new.is_clean → (IsClean mid → HasShapes mid) → (IsClean mid → IsTrue mid.is_numbered) → (IsClean new → OnlyCommits mid new) → AreTables new
tables_made mid new falls shapes numbered frame =
    let was : IsClean new → IsClean mid = was_clean mid new falls in
    let shape : IsClean new → new.shape ≡ mid.shape = λ clean. ap (λ (v : View). v.shape) (frame clean) in
    record {
      meta = λ clean. ap (λ (s : ℕ → Shape). s 0) (shape clean) ∙ (shapes (was clean)).0;
      clients = λ clean. ap (λ (s : ℕ → Shape). s 1) (shape clean) ∙ (shapes (was clean)).1;
      accounts = λ clean. ap (λ (s : ℕ → Shape). s 2) (shape clean) ∙ (shapes (was clean)).2;
      grants = λ clean. ap (λ (s : ℕ → Shape). s 3) (shape clean) ∙ (shapes (was clean)).3;
      same = λ clean. shape clean ∙ sym (ap (λ (v : View). v.committed_shape) (frame clean));
      numbered = λ clean. subst IsTrue (sym (ap (λ (v : View). v.is_numbered) (frame clean))) (numbered (was clean));
    }
