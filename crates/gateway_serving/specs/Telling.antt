-- What doors tell, and that they were started and stopped.
use Rattle.std.specs.Prelude.{◌≡◌, ℕ, List, ◌++◌, Option, Some}
use Rattle.doors.specs.Starts.{Asked, Stopped}
use Rattle.doors.specs.declared.starting.Doors.{Ghosts}
use Rattle.gateway_serving.specs.declared.asked.Serving.{Serving}

-- What doors tell at one moment: the count of starts that failed, what they were started with last, how many are started and
-- not stopped, and those that were stopped.
pub record DoorsTold : Type 0 where
  pub faults : ℕ
  pub asked : Option Asked
  pub running : ℕ
  pub stopped : List Stopped

-- the same of what starts them
abbrev pub doors_told : {D Door S K W C : Type 0} → Ghosts D Door S K W C → D → DoorsTold
doors_told tell doors =
    record { faults = tell.faults doors; asked = tell.asked doors; running = tell.running doors; stopped = tell.stopped doors }

-- what the doors are started with
abbrev pub asked_of : Serving → Asked
asked_of serving = record {
  listen = serving.listen.now;
  upstream = serving.upstream.now;
  workers = serving.workers;
  connections = serving.connections;
}

-- The doors were started with what was asked. Then all were stopped, and of these it is told.
pub record StartAndStop (serving : Serving) (before now : DoorsTold) (stopped : List Stopped) : Type 0 where
  pub asked : now.asked ≡ Some (asked_of serving)
  pub idle : now.running ≡ 0
  pub grown : now.stopped ≡ before.stopped ++ stopped

-- No doors were started.
pub record StartNone (before now : DoorsTold) : Type 0 where
  pub asked : now.asked ≡ before.asked
  pub idle : now.running ≡ 0
  pub same : now.stopped ≡ before.stopped
