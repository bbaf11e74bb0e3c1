-- A crash, and a journal that is opened on what it left.
use Rattle.std.specs.Prelude.{ℕ, List, Option}
use Rattle.account_core.specs.Machine.{Entry}
use Rattle.account_journal.specs.declared.journal.Journal.{Journal}
use Rattle.account_journal.specs.Journals.{IsTold, KeepsHistory, Stores}
use Rattle.account_journal.specs.Recovery.{CrashesLeaveSince, IsPartlyRecovered, IsRecoveredFrom}

-- A journal that stores these entries makes a call of one entry, at some moment of which a crash leaves a file, and a journal is opened on
-- that.
pub record OpensAfterCall {D : Type 0} (reads : D → Option (List ℕ)) (image : D → List ℕ → Type 0) (moment : D → ℕ) (image_since : D → ℕ → List ℕ → Type 0) (j : Journal D) (entries : List Entry) (e : Entry) (now : D) (left : List ℕ) (opened : Journal D) : Type 0 where
  pub told : IsTold reads j
  pub stores : Stores reads image j entries
  pub keeps : KeepsHistory reads image moment image_since j now e entries
  pub crash : image_since now (moment j.disk) left
  pub opens : IsRecoveredFrom reads image opened left

-- The same of a crash while a journal is opened on a disk that reads as a file.
pub record OpensAfterOpening {D : Type 0} (reads : D → Option (List ℕ)) (image : D → List ℕ → Type 0) (moment : D → ℕ) (image_since : D → ℕ → List ℕ → Type 0) (old : D) (file : List ℕ) (now : D) (left : List ℕ) (opened : Journal D) : Type 0 where
  pub since : CrashesLeaveSince reads image moment image_since old now file (IsPartlyRecovered file)
  pub crash : image_since now (moment old) left
  pub opens : IsRecoveredFrom reads image opened left
