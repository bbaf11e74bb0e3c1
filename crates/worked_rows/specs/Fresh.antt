-- Connections on which nothing went yet.
use Rattle.std.specs.Prelude.{ℕ, List, [], ◌∷◌, Some}
use Rattle.doors.specs.Visits.{Told}

-- what a connection tells before it is served, with these bytes to read and this reading to come
abbrev pub fresh_told : List ℕ → ℕ → Told
fresh_told request moment = record {
  left = Some request;
  written = Some [];
  readings = Some (moment ∷ []);
  log = Some [];
  read_faults = 0;
  write_faults = 0;
  dial_faults = 0;
  transfer_faults = 0;
}
