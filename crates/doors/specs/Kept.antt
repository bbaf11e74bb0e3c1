-- What the forms and adapters keep of the doors that they start and stop.
use Rattle.std.specs.Prelude.{◌≡◌, ℕ, false, is_some, string_bytes}
use Rattle.doors.specs.declared.tcp_door.TcpDoor.{TcpDoor}
use Rattle.doors.specs.Starts.{Asked, DoorMembers, Stopped, stopped_by}
use Rattle.doors.specs.declared.starting.StartWords.{StartWords}
use Rattle.doors.specs.declared.starting.StoppedDoor.{StoppedDoor}

-- what is asked by these words
abbrev pub asked_by : StartWords → Asked
asked_by words = record {
  listen = string_bytes words.listen;
  upstream = string_bytes words.upstream;
  workers = words.workers;
  connections = words.connections;
}

-- a door that was to give so many connections, as it is kept
abbrev pub stopped_door : {D : Type 0} → ℕ → D → StoppedDoor D
stopped_door connections door = record { door = door; connections = connections }

-- what is told of a door that is kept
abbrev pub told_stopped : {D : Type 0} → DoorMembers D → StoppedDoor D → Stopped
told_stopped members kept = stopped_by members kept.connections kept.door

-- A door over TCP as it is made by these words: it leads where they say, none is out, so many connections are to come, and none failed.
pub record IsMadeBy {R L S : Type 0} (words : StartWords) (door : TcpDoor R L S) : Type 0 where
  pub leads : string_bytes door.upstream ≡ string_bytes words.upstream
  pub free : is_some door.client ≡ false
  pub to_come : door.to_come ≡ words.connections
  pub calm : door.faults ≡ 0
