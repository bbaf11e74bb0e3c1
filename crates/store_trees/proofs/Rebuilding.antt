-- Steps that leave what was found.
use Rattle.std.proofs.Common.{◌≡◌, ℕ, pos, List, [], ◌∷◌, ◌++◌, ◌<◌, map, refl, sym, ap, subst, ◌∙◌, Less, append_assoc, arith}
use Rattle.std.specs.List.{AllByRecursion}
use Rattle.std.proofs.lemmas.Bool.Decides.{nat_tests}
use Rattle.std.proofs.lemmas.Int.{ints}
use Rattle.std.proofs.lemmas.List.{append-nil}
use Rattle.sqlite_value.specs.declared.value.Value.TheVariants.{Int}
use Rattle.sqlite_value.specs.Order.{Row, value_cmp}
use Rattle.sqlite_value.proofs.OrderLemmas.{value_cmp-Int}
use Rattle.sqlite_trees.specs.Tree.{Trees, rowid, IsTable, put_row, no_trees}
use Rattle.sqlite_trees.specs.View.{View, IsShaped, IsOrdered}
use Rattle.sqlite_trees.specs.declared.store.Shape.{Shape}
use Rattle.sqlite_trees.specs.declared.store.Shape.TheVariants.{Table}
use Rattle.account_core.specs.Machine.{Grant}
use Rattle.account_store.specs.declared.step.AccountRow.{AccountRow}
use Rattle.account_store.specs.declared.step.GrantRow.{GrantRow}
use Rattle.account_store.specs.declared.step.Step.{Step}
use Rattle.account_store.specs.declared.step.Step.TheVariants.{Accounted, Opened}
use Rattle.account_store.specs.Steps.{Rows, no_rows, grant_of, stepped}
use Rattle.account_store.specs.Numbers.{AreNumbered}
use Rattle.store_trees.specs.Tables.{account_tree, grant_tree, grant_entry, account_row, grant_row, steps_found, entered, entered_by, AgreeOnRows}
use Rattle.store_trees.specs.Keeping.{HasRows, HasFound}
use Rattle.store_trees.proofs.Rowids.{put_last}
use Rattle.store_trees.proofs.Sequences.{entered_by_both}
use Rattle.store_trees.proofs.Showing.{map_push}

-- ---- rows in order

all_at : (P : Row → Type 0) (xs : List Row) (y : Row) (ys : List Row) → AllByRecursion P (xs ++ y ∷ ys) → P y
all_at P [] y ys all = all.0
all_at P (x ∷ xs) y ys all = all_at P xs y ys all.1

before_it : (xs : List Row) (y : Row) (ys : List Row) → IsTable (xs ++ y ∷ ys) → AllByRecursion (λ x. value_cmp (rowid x) (rowid y) ≡ Less) xs
before_it [] y ys table = tt
before_it (x ∷ xs) y ys table = (all_at (λ r. value_cmp (rowid x) (rowid r) ≡ Less) xs y ys table.0, before_it xs y ys table.1)

-- the next row of a table is put behind those before it
put_next : (rows done : List Row) (x : Row) (rest : List Row) → rows ≡ done → IsTable (done ++ x ∷ rest) → put_row x rows ≡ done ++ x ∷ []
put_next rows done x rest same table = ap (put_row x) same ∙ put_last x done (before_it done x rest table)

-- ---- trees

abbrev accounted : ℕ × AccountRow → Step
accounted a = Accounted a.0 a.1

abbrev was_opened : GrantRow → Step
was_opened g = Opened g

accounts_entered : (trees : Trees) (done : List Row) (accs : List (ℕ × AccountRow)) → trees account_tree ≡ done → IsTable (done ++ map account_row accs)
    → entered_by trees (map accounted accs) account_tree ≡ done ++ map account_row accs
accounts_entered trees done [] same table = same ∙ sym (append-nil done)
accounts_entered trees done (a ∷ accs) same table =
    let row = account_row a in
    accounts_entered (entered trees (accounted a)) (done ++ row ∷ []) accs (put_next (trees account_tree) done row (map account_row accs) same table)
    (subst IsTable (sym (append_assoc done (row ∷ []) (map account_row accs))) table)
    ∙ append_assoc done (row ∷ []) (map account_row accs)

grants_stay : (trees : Trees) (accs : List (ℕ × AccountRow)) → entered_by trees (map accounted accs) grant_tree ≡ trees grant_tree
grants_stay trees [] = refl
grants_stay trees (a ∷ accs) = grants_stay (entered trees (accounted a)) accs

grants_entered : (trees : Trees) (done : List Row) (gs : List GrantRow) → trees grant_tree ≡ done → IsTable (done ++ map grant_row gs)
    → entered_by trees (map was_opened gs) grant_tree ≡ done ++ map grant_row gs
grants_entered trees done [] same table = same ∙ sym (append-nil done)
grants_entered trees done (g ∷ gs) same table =
    let row = grant_row g in
    grants_entered (entered trees (was_opened g)) (done ++ row ∷ []) gs (put_next (trees grant_tree) done row (map grant_row gs) same table)
    (subst IsTable (sym (append_assoc done (row ∷ []) (map grant_row gs))) table)
    ∙ append_assoc done (row ∷ []) (map grant_row gs)

accounts_stay : (trees : Trees) (gs : List GrantRow) → entered_by trees (map was_opened gs) account_tree ≡ trees account_tree
accounts_stay trees [] = refl
accounts_stay trees (g ∷ gs) = accounts_stay (entered trees (was_opened g)) gs

pub rebuilt : (trees : Trees) (accs : List (ℕ × AccountRow)) (gs : List GrantRow) → IsTable (trees account_tree) → IsTable (trees grant_tree)
    → trees account_tree ≡ map account_row accs → trees grant_tree ≡ map grant_row gs → AgreeOnRows trees (entered_by no_trees (steps_found accs gs))
rebuilt trees accs gs one two accounts grants =
    let first = entered_by no_trees (map accounted accs) in
    let all = entered_by_both no_trees (map accounted accs) (map was_opened gs) in
    record {
      accounts =
          accounts
          ∙ (sym (accounts_entered no_trees [] accs refl (subst IsTable accounts one))
          ∙ (sym (accounts_stay first gs) ∙ ap (λ (t : Trees). t account_tree) (sym all)));
      grants =
          grants
          ∙ (sym (grants_entered first [] gs (grants_stay no_trees accs) (subst IsTable grants two))
          ∙ ap (λ (t : Trees). t grant_tree) (sym all));
    }

-- ---- numbers

less_id : (a b : ℕ) → value_cmp (Int (pos a)) (Int (pos b)) ≡ Less → a < b
less_id a b h = let less = sym (value_cmp-Int (pos a) (pos b)) ∙ h in grind (arith, ints, nat_tests, less)

numbers_before : (number : ℕ) (gs : List Grant) → AllByRecursion (λ r. value_cmp (rowid r) (Int (pos number)) ≡ Less) (map grant_entry gs) → AllByRecursion (λ g. g.number < number) gs
numbers_before number [] below = tt
numbers_before number (g ∷ gs) below = (less_id g.number number below.0, numbers_before number gs below.1)

grants_numbered : (rows : Rows) (gs : List GrantRow) → IsTable (map grant_entry rows.grants ++ map grant_row gs) → AreNumbered rows (map was_opened gs)
grants_numbered rows [] table = tt
grants_numbered rows (g ∷ gs) table =
    let before = map grant_entry rows.grants in
    let row = grant_row g in
    let longer : map grant_entry (rows.grants ++ grant_of g ∷ []) ++ map grant_row gs ≡ before ++ row ∷ map grant_row gs =
    ap (λ (l : List Row). l ++ map grant_row gs) (map_push rows.grants (grant_of g)) ∙ append_assoc before (row ∷ []) (map grant_row gs) in
    (numbers_before g.number rows.grants (before_it before row (map grant_row gs) table), grants_numbered (stepped rows (was_opened g)) gs (subst IsTable (sym longer) table))

found_numbered : (rows : Rows) (accs : List (ℕ × AccountRow)) (gs : List GrantRow) → rows.grants ≡ [] → IsTable (map grant_row gs) → AreNumbered rows (map accounted accs ++ map was_opened gs)
found_numbered rows [] gs none table = grants_numbered rows gs (subst (λ (l : List Grant). IsTable (map grant_entry l ++ map grant_row gs)) (sym none) table)
found_numbered rows (a ∷ accs) gs none table = (tt, found_numbered (stepped rows (accounted a)) accs gs none table)

pub are_numbered : (accs : List (ℕ × AccountRow)) (gs : List GrantRow) → IsTable (map grant_row gs) → AreNumbered no_rows (steps_found accs gs)
are_numbered accs gs table = found_numbered no_rows accs gs refl table

-- ---- a store that was read

-- a sound store with nothing pending, whose tables have these rows
pub record WasRead (v : View) (Recovers : Trees → Type 0) (accs : List (ℕ × AccountRow)) (gs : List GrantRow) : Type 0 where
  pub ordered : IsOrdered v.shape v.trees
  pub accounts : v.shape account_tree ≡ Table
  pub grants : v.shape grant_tree ≡ Table
  pub rows : HasRows v accs gs
  pub rests : v.trees ≡ v.committed
  pub settled : (db : Trees) → Recovers db → db ≡ v.committed

pub has_found : (v : View) (Recovers : Trees → Type 0) (accs : List (ℕ × AccountRow)) (gs : List GrantRow) → WasRead v Recovers accs gs → HasFound v Recovers (steps_found accs gs)
has_found v Recovers accs gs was =
    let one : IsTable (v.trees account_tree) = (subst (λ (s : Shape). IsShaped s (v.trees account_tree)) was.accounts (was.ordered account_tree)).0 in
    let two : IsTable (v.trees grant_tree) = (subst (λ (s : Shape). IsShaped s (v.trees grant_tree)) was.grants (was.ordered grant_tree)).0 in
    let shown = rebuilt v.trees accs gs one two was.rows.accounts was.rows.grants in
    record {
      numbered = are_numbered accs gs (subst IsTable was.rows.grants two);
      shown = shown;
      left = λ db left. subst (λ (t : Trees). AgreeOnRows t (entered_by no_trees (steps_found accs gs))) (was.rests ∙ sym (was.settled db left)) shown;
    }
