use Rattle.std.proofs.Common.{◌≡◌, ◌++◌, drop}
use Rattle.std.specs.Prelude.{flat_map}
use Rattle.schema_surprises.specs.Surprises.{indented, group_text}
use Rattle.schema_surprises.proofs.reporting.push_group.Given as goal

-- with the names that are left it is the whole group
abbrev pub invariant-loop-name : goal.invariant-loop-name
invariant-loop-name l = l.into.items ++ flat_map indented (drop l.name-index l.names) ≡ l.fn.into.items ++ group_text l.sentence l.names
