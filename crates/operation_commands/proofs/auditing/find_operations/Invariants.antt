use Rattle.operation_commands.specs.Audit.{names_in, FindEach}
use Rattle.operation_commands.proofs.AuditWalks.{GoesOn, FindFrom}
use Rattle.operation_commands.proofs.auditing.find_operations.Given as goal

-- With what is found in the definitions that are left it is what is found in all.
abbrev pub invariant-loop-at : goal.invariant-loop-at
invariant-loop-at l = GoesOn (FindFrom l.of.asked.now l.texts l.name l.document.definitions.items l.at) (FindEach l.of.asked.now l.texts l.name (names_in l.document.definitions.items)) l.fn.into.items l.into.items
