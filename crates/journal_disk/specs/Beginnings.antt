-- On which files a journal is opened.
use Rattle.std.specs.Prelude.{ℕ, ◌==◌, ◌&&◌, ◌||◌, nat_le, Bool, List, length, get_or}

-- Nothing, or what is left where the making of a journal is cut short: at most a first slot whose gate is shut, and the gate of the next.
abbrev pub is_cut_short : List ℕ → Bool
is_cut_short file = nat_le (length file) 65 && (get_or file 0 0 == 0)

-- a file may be that of a journal: its first gate is open, or its making was cut short
abbrev pub may_be_journal : List ℕ → Bool
may_be_journal file = (get_or file 0 0 == 1) || is_cut_short file
