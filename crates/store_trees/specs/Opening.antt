-- What an opening finds, and why it refuses a database.
use Rattle.std.specs.Prelude.{◌≡◌, ◌≢◌, ◌⊎◌, ◌<◌, ◌≤◌, ◌^◌, ℕ, List, [], map, Bool, ◌&&◌, nat_lt, IsTrue, false, ⊤}
use Rattle.std.specs.List.{AllByRecursion, list_all}
use Rattle.sqlite_value.specs.Order.{Row}
use Rattle.sqlite_disk.specs.Disk.{MoreFaults}
use Rattle.sqlite_trees.specs.declared.error.StoreError.{StoreError}
use Rattle.sqlite_trees.specs.declared.error.StoreError.TheVariants as store
use Rattle.sqlite_trees.specs.View.{View, IsClean, doubt}
use Rattle.sqlite.specs.declared.error.Error.{Error as SqlError}
use Rattle.sqlite.specs.declared.error.Error.TheVariants.{SqliteFailure}
use Rattle.sqlite.specs.declared.error.ErrorCode.{ErrorCode}
use Rattle.sqlite.specs.declared.error.ErrorCode.TheVariants as sql
use Rattle.sqlite_trees.specs.Tree.{Trees}
use Rattle.sqlite_trees.specs.Objects.{catalog_tree}
use Rattle.account_store.specs.declared.step.AccountRow.{AccountRow}
use Rattle.account_store.specs.declared.step.GrantRow.{GrantRow}
use Rattle.store_trees.specs.Tables.{meta_tree, client_tree, account_tree, grant_tree, meta_rows, account_row, grant_row}
use Rattle.store_trees.specs.Clients.{AreClients, IsNextOf, HaveRoom, TakesClients}
use Rattle.account_store.specs.declared.step.Step.{Step}
use Rattle.account_store.specs.declared.keeper.KeeperFault.{KeeperFault}
use Rattle.account_store.specs.declared.keeper.KeeperFault.TheVariants as keeper
use Rattle.store_trees.specs.declared.fault.OpenFault.{OpenFault}
use Rattle.store_trees.specs.declared.fault.OpenFault.TheVariants as why
use Rattle.store_trees.specs.Keeping.{CanKeep, CanKeepAll}
use Rattle.store_trees.specs.Making.{AreListed, AreMade, HasShapes, HasFreeTrees}

-- A store that was rolled back: it shows what was committed.
pub record IsAtRest (old new : View) : Type 0 where
  pub live : IsTrue new.is_open
  pub was_live : IsTrue old.is_open
  pub sound : new.is_broken ≡ false
  pub shape : (new.shape ≡ old.committed_shape) × (new.committed_shape ≡ old.committed_shape)
  pub trees : (new.trees ≡ old.committed) × (new.committed ≡ old.committed)
  pub numbered : new.is_numbered ≡ old.is_numbered

-- What stands there is what was found, or the tables were made where the database listed nothing.
abbrev pub IsFoundOrMade : Trees → Trees → ℕ → Type 0
IsFoundOrMade was now seconds = (now ≡ was) ⊎ ((was catalog_tree ≡ []) × AreMade now seconds)

-- No fault is forgotten, and a crash leaves what it could leave before or, where the database listed nothing, the tables as they are made.
pub record MayMake {S : Type 0} (view : S → View) (faults : S → ℕ) (recovers : S → Trees → Type 0) (Shielded : S → Type 0) (seconds : ℕ) (old new : S) : Type 0 where
  pub shield : Shielded old → Shielded new
  pub clean : doubt (view old).is_clean ≤ doubt (view new).is_clean
  pub counts : faults old ≤ faults new
  pub outcomes : (db : Trees) → recovers new db → recovers old db ⊎ (IsClean (view old) × ((view old).committed catalog_tree ≡ []) × AreMade db seconds)

-- the clients of accounts and open grants have numbers below this one
abbrev pub are_below : ℕ → List (ℕ × AccountRow) → List GrantRow → Bool
are_below next accounts grants = list_all (λ a. nat_lt a.0 next) accounts && list_all (λ g. nat_lt g.client next) grants

-- so that no client that is still to come gets the number of one of them
abbrev pub AreOfClients : Trees → List (ℕ × AccountRow) → List GrantRow → Type 0
AreOfClients trees accounts grants = (next : ℕ) × IsNextOf (trees client_tree) next × IsTrue (are_below next accounts grants)

-- A database of accounts with windows of so many seconds, which has these accounts and open grants.
pub record Shows (trees : Trees) (seconds : ℕ) (accounts : List (ℕ × AccountRow)) (grants : List GrantRow) : Type 0 where
  pub listed : AreListed trees
  pub meta : trees meta_tree ≡ meta_rows 1 seconds
  pub accounts_are : trees account_tree ≡ map account_row accounts
  pub grants_are : trees grant_tree ≡ map grant_row grants
  pub known : AreOfClients trees accounts grants

-- ---- refusals

-- the disk failed between two states of a store, or had failed before
abbrev pub HasFailed : {S : Type 0} → (S → View) → (S → ℕ) → S → S → Type 0
HasFailed view faults old new = IsTrue (view old).is_broken ⊎ MoreFaults (faults old) (faults new)

abbrev pub fault_of : StoreError → OpenFault
fault_of store.OutOfMemory = why.OutOfMemory
fault_of store.Corrupt = why.Damaged
fault_of store.Full = why.Full
fault_of store.Io = why.Disk
fault_of store.Broken = why.Disk
fault_of store.Unstorable = why.Disk

-- an error of the database itself, as it opens
abbrev pub code_fault : ErrorCode → OpenFault
code_fault sql.OutOfMemory = why.OutOfMemory
code_fault sql.CannotOpen = why.CannotOpen
code_fault sql.DatabaseBusy = why.InUse
code_fault sql.NotADatabase = why.NoDatabase
code_fault sql.DatabaseCorrupt = why.Damaged
code_fault sql.DiskFull = why.Full
code_fault _ = why.Disk

abbrev pub sql_fault_of : SqlError → OpenFault
sql_fault_of (SqliteFailure code) = code_fault code
sql_fault_of _ = why.Foreign

-- there was no memory, or the disk failed
abbrev pub FailsFor : Type 0 → StoreError → Type 0
FailsFor failed e = (e ≡ store.OutOfMemory) ⊎ failed

-- why steps aren't kept: there was no memory, the disk failed, or one of them can't be
abbrev pub KeepFails : Type 0 → Type 0 → StoreError → Type 0
KeepFails failed unkept store.OutOfMemory = ⊤
KeepFails failed unkept store.Corrupt = failed
KeepFails failed unkept store.Full = failed
KeepFails failed unkept store.Io = failed
KeepFails failed unkept store.Broken = failed
KeepFails failed unkept store.Unstorable = unkept

-- and as a keeper says it
abbrev pub kept_fault : StoreError → KeeperFault
kept_fault store.OutOfMemory = keeper.Memory
kept_fault store.Corrupt = keeper.Failed
kept_fault store.Full = keeper.Failed
kept_fault store.Io = keeper.Failed
kept_fault store.Broken = keeper.Failed
kept_fault store.Unstorable = keeper.Unkeepable

abbrev pub SaysWhy : Type 0 → Type 0 → KeeperFault → Type 0
SaysWhy failed unkept keeper.Memory = ⊤
SaysWhy failed unkept keeper.Failed = failed
SaysWhy failed unkept keeper.Unkeepable = unkept

-- there is no memory, the disk failed, or rows aren't all ones that are taken
abbrev pub FailsOn : Type 0 → Type 0 → OpenFault → Type 0
FailsOn taken failed why.OutOfMemory = ⊤
FailsOn taken failed why.CannotOpen = ⊥
FailsOn taken failed why.InUse = ⊥
FailsOn taken failed why.NoDatabase = ⊥
FailsOn taken failed why.Damaged = failed
FailsOn taken failed why.Disk = failed
FailsOn taken failed why.Full = failed
FailsOn taken failed why.Foreign = ⊥
FailsOn taken failed (why.Format format) = ⊥
FailsOn taken failed (why.Window seconds) = ⊥
FailsOn taken failed why.BadRow = ¬ taken

-- Rows that a keeper writes: a client's number has 32 bits.
abbrev pub AreAccounts : List Row → Type 0
AreAccounts rows = (accounts : List (ℕ × AccountRow)) × AllByRecursion (λ a. a.0 < 2 ^ 32) accounts × (rows ≡ map account_row accounts)

abbrev pub AreGrants : List Row → Type 0
AreGrants rows = (grants : List GrantRow) × AllByRecursion (λ g. g.client < 2 ^ 32) grants × (rows ≡ map grant_row grants)

pub record AreTaken (trees : Trees) : Type 0 where
  pub accounts : AreAccounts (trees account_tree)
  pub grants : AreGrants (trees grant_tree)
  pub clients : AreClients (trees client_tree)
  pub known : (accs : List (ℕ × AccountRow)) (gs : List GrantRow) (next : ℕ) → trees account_tree ≡ map account_row accs → trees grant_tree ≡ map grant_row gs → IsNextOf (trees client_tree) next → IsTrue (are_below next accs gs)

-- why the rows of `meta` aren't taken
abbrev pub RefusesMeta : List Row → ℕ → OpenFault → Type 0
RefusesMeta rows seconds why.OutOfMemory = ⊥
RefusesMeta rows seconds why.CannotOpen = ⊥
RefusesMeta rows seconds why.InUse = ⊥
RefusesMeta rows seconds why.NoDatabase = ⊥
RefusesMeta rows seconds why.Damaged = ⊥
RefusesMeta rows seconds why.Disk = ⊥
RefusesMeta rows seconds why.Full = ⊥
RefusesMeta rows seconds why.Foreign = (format other : ℕ) → rows ≢ meta_rows format other
RefusesMeta rows seconds (why.Format format) = (format ≢ 1) × ((other : ℕ) × (rows ≡ meta_rows format other))
RefusesMeta rows seconds (why.Window other) = (other ≢ seconds) × (rows ≡ meta_rows 1 other)
RefusesMeta rows seconds why.BadRow = ⊥

-- Why what our tables have isn't taken: first what the database says of itself, and then the rows.
abbrev pub RefusesRows : Trees → ℕ → Type 0 → OpenFault → Type 0
RefusesRows trees seconds failed why.OutOfMemory = ⊤
RefusesRows trees seconds failed why.CannotOpen = ⊥
RefusesRows trees seconds failed why.InUse = ⊥
RefusesRows trees seconds failed why.NoDatabase = ⊥
RefusesRows trees seconds failed why.Damaged = failed
RefusesRows trees seconds failed why.Disk = failed
RefusesRows trees seconds failed why.Full = failed
RefusesRows trees seconds failed why.Foreign = (format other : ℕ) → trees meta_tree ≢ meta_rows format other
RefusesRows trees seconds failed (why.Format format) = (format ≢ 1) × ((other : ℕ) × (trees meta_tree ≡ meta_rows format other))
RefusesRows trees seconds failed (why.Window other) = (other ≢ seconds) × (trees meta_tree ≡ meta_rows 1 other)
RefusesRows trees seconds failed why.BadRow = (trees meta_tree ≡ meta_rows 1 seconds) × (¬ AreTaken trees)

-- what was committed has our tables and no others
pub record HasOurTables (v : View) : Type 0 where
  pub listed : AreListed v.committed
  pub shapes : HasShapes (record v { shape = v.committed_shape })

-- the database has our tables, or they were made where it listed nothing
abbrev pub IsPrepared : View → View → ℕ → Type 0
IsPrepared old new seconds = (HasOurTables old × (new.trees ≡ old.committed)) ⊎ ((old.committed catalog_tree ≡ []) × AreMade new.trees seconds)

-- Why a database isn't opened: it has other tables or says nothing of itself (`Foreign`), and if not, another format, another length of windows, or rows that no keeper writes, in this order.
-- One that lists nothing is damaged where it has trees in the tables' places. `failed` says that the disk failed.
abbrev pub Refuses : View → ℕ → Type 0 → OpenFault → Type 0
Refuses v seconds failed why.OutOfMemory = ⊤
Refuses v seconds failed why.CannotOpen = ⊥
Refuses v seconds failed why.InUse = ⊥
Refuses v seconds failed why.NoDatabase = ⊥
Refuses v seconds failed why.Damaged = ((v.committed catalog_tree ≡ []) × (¬ HasFreeTrees (record v { shape = v.committed_shape }))) ⊎ failed
Refuses v seconds failed why.Disk = failed
Refuses v seconds failed why.Full = failed
Refuses v seconds failed why.Foreign = (v.committed catalog_tree ≢ []) × (¬ (HasOurTables v × ((format : ℕ) × ((other : ℕ) × (v.committed meta_tree ≡ meta_rows format other)))))
Refuses v seconds failed (why.Format format) = HasOurTables v × RefusesRows v.committed seconds failed (why.Format format)
Refuses v seconds failed (why.Window other) = HasOurTables v × RefusesRows v.committed seconds failed (why.Window other)
Refuses v seconds failed why.BadRow = HasOurTables v × RefusesRows v.committed seconds failed why.BadRow

-- the store was shut, or the disk failed since
abbrev pub HasShut : {S : Type 0} → (S → View) → (S → ℕ) → S → S → Type 0
HasShut view faults old new = ((view old).is_open ≡ false) ⊎ MoreFaults (faults old) (faults new)

-- ---- what is told between two states of a store

-- why a step isn't made
abbrev pub StepFails : {S : Type 0} → (S → View) → (S → ℕ) → S → S → Step → StoreError → Type 0
StepFails view faults old new step e = IsClean (view new) → KeepFails (HasFailed view faults old new) (¬ CanKeep (view old).reals step) e

-- why none of these steps is kept
abbrev pub BatchFails : {S : Type 0} → (S → View) → (S → ℕ) → S → S → List Step → StoreError → Type 0
BatchFails view faults old new steps e = IsClean (view new) → KeepFails (HasFailed view faults old new) (¬ CanKeepAll (view old).reals steps) e

abbrev pub BatchFault : {S : Type 0} → (S → View) → (S → ℕ) → S → S → List Step → KeeperFault → Type 0
BatchFault view faults old new steps fault = IsClean (view new) → SaysWhy (HasFailed view faults old new) (¬ CanKeepAll (view old).reals steps) fault

-- why the rows of clients aren't put
abbrev pub ClientsFail : {S : Type 0} → (S → View) → (S → ℕ) → S → S → StoreError → Type 0
ClientsFail view faults old new e = IsClean (view new) → KeepFails (HasFailed view faults old new) (¬ TakesClients ((view old).reals client_tree)) e

-- why so many clients get no numbers
abbrev pub NumbersFail : {S : Type 0} → (S → View) → (S → ℕ) → S → S → ℕ → OpenFault → Type 0
NumbersFail view faults old new count e =
    IsClean (view new) → FailsOn (HaveRoom ((view old).trees client_tree) count) (HasFailed view faults old new ⊎ (¬ TakesClients ((view old).reals client_tree))) e
