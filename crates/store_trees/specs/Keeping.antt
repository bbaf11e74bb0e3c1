-- What a store shows of the two tables before, amid and after a commit.
use Rattle.std.specs.Prelude.{ℕ, List, map, ◌≡◌, ◌<◌, IsTrue}
use Rattle.std.specs.List.{AllByRecursion}
use Rattle.sqlite_value.specs.Order.{Row}
use Rattle.sqlite_trees.specs.View.{View, IsClean, IsStorableRow}
use Rattle.sqlite_trees.specs.declared.store.Shape.TheVariants.{Table}
use Rattle.sqlite_trees.specs.Tree.{Trees, no_trees}
use Rattle.account_store.specs.declared.step.AccountRow.{AccountRow}
use Rattle.account_store.specs.declared.step.GrantRow.{GrantRow}
use Rattle.account_store.specs.declared.step.Step.{Step}
use Rattle.account_store.specs.declared.step.Step.TheVariants.{Accounted, Opened, Closed}
use Rattle.account_store.specs.Steps.{no_rows, grant_of}
use Rattle.account_store.specs.Numbers.{AreNumbered}
use Rattle.store_trees.specs.Tables.{meta_tree, client_tree, account_tree, grant_tree, account_entry, grant_entry, account_row, grant_row, entered_by, AgreeOnRows}

-- the trees are tables, the shapes are as the last commit has them, and the store numbers its trees as its list does
pub record AreTables (v : View) : Type 0 where
  pub meta : IsClean v → v.shape meta_tree ≡ Table
  pub clients : IsClean v → v.shape client_tree ≡ Table
  pub accounts : IsClean v → v.shape account_tree ≡ Table
  pub grants : IsClean v → v.shape grant_tree ≡ Table
  pub same : IsClean v → v.shape ≡ v.committed_shape
  pub numbered : IsClean v → IsTrue v.is_numbered

-- nothing is pending
abbrev pub Rests : View → Type 0
Rests v = IsClean v → IsTrue v.is_open → v.trees ≡ v.committed

-- these steps were made one after the other in an unbroken transaction
pub record Makes (old new : View) (steps : List Step) : Type 0 where
  pub sound : new.is_broken ≡ old.is_broken
  pub trees : new.trees ≡ entered_by old.trees steps
  pub committed : new.committed ≡ old.committed

-- these steps were made and committed
pub record HasCommitted (old new : View) (steps : List Step) : Type 0 where
  pub trees : new.trees ≡ entered_by old.trees steps
  pub committed : new.committed ≡ entered_by old.trees steps

-- ---- what can be kept

-- a number that a column can have
abbrev pub IsSmall : ℕ → Type 0
IsSmall n = n < 9223372036854775808

abbrev pub IsSmallAccount : AccountRow → Type 0
IsSmallAccount a = IsSmall a.window × IsSmall a.settled.types × IsSmall a.settled.fields × IsSmall a.carried.types × IsSmall a.carried.fields

abbrev pub IsSmallGrant : GrantRow → Type 0
IsSmallGrant g = IsSmall g.number × IsSmall g.window × IsSmall g.bound.types × IsSmall g.bound.fields

-- the numbers of a row are small, and the store takes it
pub record CanKeepRow (small : Type 0) (reals : ℕ) (row : Row) : Type 0 where
  pub numbers : small
  pub stored : IsStorableRow reals row

-- the store can keep a step, where its tables have these REAL columns
abbrev pub CanKeep : (ℕ → ℕ) → Step → Type 0
CanKeep reals (Accounted client a) = CanKeepRow (IsSmallAccount a) (reals account_tree) (account_entry client a)
CanKeep reals (Opened g) = CanKeepRow (IsSmallGrant g) (reals grant_tree) (grant_entry (grant_of g))
CanKeep reals (Closed client number) = IsSmall number

abbrev pub CanKeepAll : (ℕ → ℕ) → List Step → Type 0
CanKeepAll reals steps = AllByRecursion (CanKeep reals) steps

-- ---- what was kept

-- what was committed before is still what is committed, unless the store is shut
abbrev pub Stands : View → View → Type 0
Stands old new = IsClean new → IsTrue new.is_open → IsTrue old.is_open × (new.committed ≡ old.committed)

-- the rows are those of the tree, and nothing has changed but cursors
pub record Reads (old new : View) (tree : ℕ) (found : List Row) : Type 0 where
  pub rows : found ≡ old.trees tree
  pub same : new ≡ record old { cursors = new.cursors }

-- The store shows what these steps leave, and so does whatever a crash leaves now.
pub record HasFound (v : View) (Recovers : Trees → Type 0) (steps : List Step) : Type 0 where
  pub numbered : AreNumbered no_rows steps
  pub shown : AgreeOnRows v.trees (entered_by no_trees steps)
  pub left : (db : Trees) → Recovers db → AgreeOnRows db (entered_by no_trees steps)

-- the rows of the two tables
pub record HasRows (v : View) (found : List (ℕ × AccountRow)) (left_open : List GrantRow) : Type 0 where
  pub accounts : v.trees account_tree ≡ map account_row found
  pub grants : v.trees grant_tree ≡ map grant_row left_open

-- nothing but cursors has changed
abbrev pub OnlyReads : View → View → Type 0
OnlyReads old new = new ≡ record old { cursors = new.cursors }
