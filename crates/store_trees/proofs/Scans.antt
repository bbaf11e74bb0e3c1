-- A scan of a tree from its first row on.
use Rattle.std.proofs.Common.{◌≡◌, ℕ, List, [], ◌∷◌, ◌++◌, Some, true, false, Bool, refl, ap, sym, ◌∙◌, subst}
use Rattle.std.proofs.lemmas.List.{append-nil, append_assoc}
use Rattle.sqlite_value.specs.Order.{Row}
use Rattle.sqlite_value.specs.declared.keys.Order.{Order}
use Rattle.sqlite_trees.specs.Tree.{from_key}
use Rattle.sqlite_trees.specs.View.{View, Advances, with_cursor}
use Rattle.store_trees.specs.Keeping.{Reads}

-- these rows were given, and the cursor gives the others
pub record IsScanning (old new : View) (tree : ℕ) (rows : List Row) : Type 0 where
  pub left : List Row
  pub gives : new.cursors 0 ≡ Some left
  pub all : rows ++ left ≡ old.trees tree
  pub same : new ≡ record old { cursors = new.cursors }

pub from_first : (o : Order) (es : List Row) → from_key o [] es ≡ es
from_first o [] = refl
from_first o (e ∷ es) = refl

pub scanned : (old mid new : View) (tree : ℕ) (rows : List Row) (row : Row) → IsScanning old mid tree rows → Advances mid new 0 row true → IsScanning old new tree (rows ++ row ∷ [])
scanned old mid new tree rows row s (left, at, is) =
    let same : row ∷ left ≡ s.left = (let e = sym at ∙ s.gives in cc) in
    record {
      left = left;
      gives = ap (λ (v : View). v.cursors 0) is;
      all = append_assoc rows (row ∷ []) left ∙ (ap (λ xs. rows ++ xs) same ∙ s.all);
      same = is ∙ ap (λ (v : View). with_cursor v 0 left) s.same ∙ ap (λ cs. record old { cursors = cs }) (sym (ap (λ (v : View). v.cursors) (is ∙ ap (λ (v : View). with_cursor v 0 left) s.same)));
    }

pub ended : (old mid new : View) (tree : ℕ) (rows : List Row) (row : Row) → IsScanning old mid tree rows → Advances mid new 0 row false → Reads old new tree rows
ended old mid new tree rows row s (at, is) =
    let none : s.left ≡ [] = (let e = sym s.gives ∙ at in cc) in
    record {
      rows = sym (append-nil rows) ∙ (ap (λ xs. rows ++ xs) (sym none) ∙ s.all);
      same = is ∙ s.same ∙ ap (λ cs. record old { cursors = cs }) (ap (λ (v : View). v.cursors) (sym is));
    }

pub begun : (old new : View) (tree : ℕ) (o : Order) (key : Row) (none : List Row) → key ≡ [] → none ≡ [] → new ≡ with_cursor old 0 (from_key o key (old.trees tree)) → IsScanning old new tree none
begun old new tree o key none empty no_rows is = record {
  left = from_key o key (old.trees tree);
  gives = ap (λ (v : View). v.cursors 0) is;
  all = ap (λ xs. xs ++ from_key o key (old.trees tree)) no_rows ∙ (ap (λ k. from_key o k (old.trees tree)) empty ∙ from_first o (old.trees tree));
  same = is ∙ ap (λ cs. record old { cursors = cs }) (sym (ap (λ (v : View). v.cursors) is));
}

pub went_on : (old mid new : View) (tree : ℕ) (rows more : List Row) (row x : Row) (found : Bool) → found ≡ true → more ≡ rows ++ x ∷ [] → x ≡ row
    → IsScanning old mid tree rows → Advances mid new 0 row found → IsScanning old new tree more
went_on old mid new tree rows more row x true turn pushed copied s step =
    subst (IsScanning old new tree) (sym (pushed ∙ ap (λ y. rows ++ y ∷ []) copied)) (scanned old mid new tree rows row s step)
went_on old mid new tree rows more row x false turn pushed copied s step = absurd cc
