-- What files held as they were opened.
use Rattle.std.specs.Prelude.{codes, ◌≡◌, ◌≢◌, ◌⊎◌, ◌≤◌, ℕ, List, [], ◌∷◌, ◌++◌, length, take, drop, Option, IfSome}
use Rattle.sqlite_wal.specs.Recovery.{Image}
use Rattle.sqlite_trees.specs.Tree.{Trees}
use Rattle.sqlite.specs.Files.{HoldsDatabase, AreFoundIn}
use Rattle.outside.specs.Faults.{Rose}
use Rattle.store_trees.specs.declared.fault.OpenFault.{OpenFault}
use Rattle.store_trees.specs.declared.fault.OpenFault.TheVariants as why

-- These trees are the database that the files held, or none where they held none.
pub record WasIn (image : Image) (was : Trees) : Type 0 where
  pub holds : (db : Trees) → HoldsDatabase image db → was ≡ db
  pub reads : AreFoundIn image was

-- ---- the first bytes of a file that has no log beside it

-- the header of a database
pub record IsHeader (head : List ℕ) : Type 0 where
  pub whole : 100 ≤ length head
  pub magic : take 16 head ≡ codes "SQLite format 3" ++ 0 ∷ []

-- its user version is the mark of accounts
abbrev pub IsMarked : List ℕ → Type 0
IsMarked head = take 4 (drop 60 head) ≡ codes "TCK1"

-- Nothing in these first bytes speaks against accounts: there are none, or they are those of a database with the mark.
abbrev pub MayBeAccounts : List ℕ → Type 0
MayBeAccounts head = (head ≡ []) ⊎ (IsHeader head × IsMarked head)

-- why they are refused
abbrev pub RefusesHead : List ℕ → OpenFault → Type 0
RefusesHead head why.OutOfMemory = ⊥
RefusesHead head why.CannotOpen = ⊥
RefusesHead head why.InUse = ⊥
RefusesHead head why.NoDatabase = (head ≢ []) × (¬ IsHeader head)
RefusesHead head why.Damaged = ⊥
RefusesHead head why.Disk = ⊥
RefusesHead head why.Full = ⊥
RefusesHead head why.Foreign = IsHeader head × (¬ IsMarked head)
RefusesHead head (why.Format format) = ⊥
RefusesHead head (why.Window seconds) = ⊥
RefusesHead head why.BadRow = ⊥

-- so of the first bytes of a file, where its content is told
abbrev pub Begins : Option (List ℕ) → (List ℕ → Type 0) → Type 0
Begins told P = IfSome told (λ whole. P (take 100 whole))

-- a file that is told empty, or that couldn't be read
abbrev pub HasNothing : Option (List ℕ) → ℕ → ℕ → Type 0
HasNothing told before after = IfSome told (λ whole. whole ≡ []) ⊎ Rose before after

-- a file that is told to have something in it
abbrev pub HasContent : Option (List ℕ) → Type 0
HasContent told = IfSome told (λ whole. whole ≢ [])

-- its first bytes may be those of accounts, or it couldn't be read
abbrev pub PassesLook : Option (List ℕ) → ℕ → ℕ → Type 0
PassesLook told before after = Begins told MayBeAccounts ⊎ Rose before after

-- why a file is refused, beside which this log may stand
abbrev pub RefusesFile : Option (List ℕ) → ℕ → ℕ → Option (List ℕ) → OpenFault → Type 0
RefusesFile log before after path e = (e ≡ why.OutOfMemory) ⊎ (HasNothing log before after × Begins path (λ head. RefusesHead head e))
