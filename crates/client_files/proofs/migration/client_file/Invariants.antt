use Rattle.std.proofs.Common.{◌≡◌, take}
use Rattle.std.specs.Prelude.{string_bytes}
use Rattle.std.specs.List.{flat_map}
use Rattle.client_files.specs.Lines.{ended}
use Rattle.client_files.specs.Written.{file_lines}
use Rattle.client_files.proofs.migration.client_file.Given as goal

abbrev pub invariant-loop-client : goal.invariant-loop-client
invariant-loop-client l = string_bytes l.file ≡ flat_map ended (file_lines l.seconds (take l.client-index l.client-items))
