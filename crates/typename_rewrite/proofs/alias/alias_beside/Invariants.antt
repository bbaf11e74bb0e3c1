use Rattle.std.proofs.Common.{suc, ◌-◌, length, map, string_bytes}
use Rattle.typename_rewrite.specs.Views.{word_text}
use Rattle.typename_rewrite.proofs.AliasSteps.{IsTried, longest}
use Rattle.typename_rewrite.proofs.alias.alias_beside.Given as goal

abbrev pub invariant-longer : goal.invariant-longer
invariant-longer l = IsTried (map word_text l.taken) (string_bytes l.alias)

abbrev pub decreases-longer : goal.decreases-longer
decreases-longer l = suc (longest (map word_text l.taken)) - length (string_bytes l.alias)
