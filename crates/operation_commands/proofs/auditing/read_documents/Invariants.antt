use Rattle.std.proofs.Common.{◌≡◌, ◌++◌, ℕ, List, map, drop}
use Rattle.outside.specs.Faults.{StayAll}
use Rattle.operation_commands.specs.Audit.{AreRead}
use Rattle.operation_commands.proofs.auditing.read_documents.Given as goal

-- With what is read of the files that are left it is what is read of all; and no file failed.
abbrev pub invariant-loop-at : goal.invariant-loop-at
invariant-loop-at g l = record {
  read : (rest : List (List ℕ)) → AreRead (g.F.Files.content l.fn.files) (drop l.at l.names) rest → AreRead (g.F.Files.content l.fn.files) l.names (map (λ bytes. bytes.items) l.contents.items ++ rest);
  same : g.F.Files.content l.files ≡ g.F.Files.content l.fn.files;
  still : StayAll (g.F.Files.faults l.fn.files) (g.F.Files.faults l.files);
}
