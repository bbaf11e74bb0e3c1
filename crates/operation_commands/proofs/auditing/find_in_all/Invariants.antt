use Rattle.std.proofs.Common.{◌≡◌, map, []}
use Rattle.operation_commands.specs.Audit.{AreFound, IsReady}
use Rattle.operation_commands.proofs.AuditWalks.{GoesOn, FoundFrom}
use Rattle.operation_commands.proofs.auditing.find_in_all.Given as goal

-- With what is found in the files that are left it is what is found in all.
abbrev pub invariant-loop-at : goal.invariant-loop-at
invariant-loop-at l = record {
  ready : IsReady l.of l.texts;
  schema : l.texts.schema ≡ l.fn.texts.schema;
  goes : GoesOn (FoundFrom l.of.asked.now l.fn.texts.schema l.names (map (λ bytes. bytes.items) l.contents) l.at) (AreFound l.of.asked.now l.fn.texts.schema l.names (map (λ bytes. bytes.items) l.contents)) [] l.findings.items;
}
