-- Connections on which nothing went yet.
use Rattle.std.specs.Prelude.{ℕ, List, [], Some, None}
use Rattle.doors.specs.Visits.{Told}

-- what a connection tells before it is served, with these bytes to read and these readings to come
abbrev pub fresh_told : List ℕ → List ℕ → Told
fresh_told sent readings = record {
  left = Some sent;
  written = Some [];
  readings = Some readings;
  log = Some [];
  read_faults = 0;
  write_faults = 0;
  dial_faults = 0;
  transfer_faults = 0;
}

-- the same where the wire doesn't tell what goes over it
abbrev pub fresh_untold : List ℕ → List ℕ → Told
fresh_untold sent readings = record (fresh_told sent readings) { log = None }
