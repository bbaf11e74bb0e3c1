-- The words that the program is given.
use Rattle.std.specs.Prelude.{ℕ, List, String, map, take, string_bytes}
use Rattle.std.specs.declared.alloc.Global.{Global}
use Rattle.std.specs.declared.vec.IntoIter.{IntoIter}
use Rattle.std.specs.Vec.Iter.{into_iter_items, into_iter_len}

-- the texts that are still to be given
abbrev pub texts_in : IntoIter (String Global) Global → List (List ℕ)
texts_in given = map string_bytes (take (into_iter_len given) (into_iter_items given))
