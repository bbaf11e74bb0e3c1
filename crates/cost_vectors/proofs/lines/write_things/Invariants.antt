use Rattle.std.proofs.Common.{◌≡◌, ◌++◌, string_bytes}
use Rattle.cost_vectors.specs.Script.{things}
use Rattle.cost_vectors.proofs.lines.write_things.Given as goal

-- What was added so far is the text of so many things.
abbrev pub invariant-things : goal.invariant-things
invariant-things l = string_bytes l.into ≡ string_bytes l.fn.into ++ things l._thing
