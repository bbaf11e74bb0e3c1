-- When work is counted.
use Rattle.std.specs.Prelude.{ℕ, List, IsSome, codes}
use Rattle.counted_work.specs.declared.work.Work.{Work}

-- A number of steps was handed in.
abbrev pub IsCounted : Work → Type 0
IsCounted work = IsSome work.left

-- How an operation is refused that takes more steps than it may.
abbrev pub work_text : List ℕ
work_text = codes "work 1 TooMuch"
