-- What was received over a wire, in whatever pieces it gave it.
use Rattle.std.specs.Prelude.{ℕ, List, ◌++◌, Bool, true, false, ◌||◌, Option, Result, Ok, Err, IsTrue}
use Rattle.std.specs.Io.KnownBytes.{IsAtEnd}
use Rattle.outside.specs.Taken.{Took}
use Rattle.outside.specs.Dials.{Dial, LastBecomes}
use Rattle.upstream_link.specs.declared.fault.LinkFault.{LinkFault}
use Rattle.upstream_link.specs.declared.fault.LinkFault.TheVariants as fault

-- a dial on which these bytes more were taken; perhaps the end was met after them, or a transfer failed
abbrev pub receives : List ℕ → Bool → Bool → Dial → Dial
receives bytes ended failed d = record { answered = d.answered; sent = d.sent; taken = d.taken ++ bytes; ended = d.ended || ended; failed = d.failed || failed }

-- what a wire tells: the bytes to come, and its log
abbrev pub Told : Type 0
Told = Option (List ℕ) × Option (List Dial)

-- These bytes were received, and both the bytes to come and the latest dial tell so.
abbrev pub Brings : Told → List ℕ → Bool → Bool → Told → Type 0
Brings before bytes ended failed after = Took before.0 bytes after.0 × LastBecomes (receives bytes ended failed) before.1 after.1

-- Some bytes were received, and `Says` holds of the bytes that were kept with those behind them. `ended` says
-- that the end was met after them, and `failed` that a transfer failed.
pub record Received (kept : List ℕ) (before after : Told) (failed : Bool) (Says : List ℕ → Bool → Type 0) : Type 0 where
  pub bytes : List ℕ
  pub ended : Bool
  pub brings : Brings before bytes ended failed after
  pub at_end : IsTrue ended → IsAtEnd after.0
  pub says : Says (kept ++ bytes) ended

abbrev pub is_failure : LinkFault → Bool
is_failure fault.Failed = true
is_failure f = false

-- the answer is that a transfer failed
abbrev pub is_failed : {A : Type 0} → Result A LinkFault → Bool
is_failed (Ok value) = false
is_failed (Err f) = is_failure f
