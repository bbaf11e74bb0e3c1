-- What serving comes to.
use Rattle.std.specs.Prelude.{◌≡◌, ◌⊎◌, ℕ, ◌*◌, List, length, nat_lt, Result, Ok, Err, All}
use Rattle.std.specs.List.{list_any}
use Rattle.outside.specs.Faults.{Rose}
use Rattle.doors.specs.Starts.{Stopped}
use Rattle.gateway_workers.specs.Decisions.{Service}
use Rattle.gateway_workers.specs.Tours.{Tour, connections_of, replies_of, faults_of}
use Rattle.gateway_serving.specs.declared.asked.Serving.{Serving}
use Rattle.gateway_serving.specs.declared.ending.ServeEnd.{ServeEnd}
use Rattle.gateway_serving.specs.declared.ending.ServeFault.{ServeFault}
use Rattle.gateway_serving.specs.declared.ending.ServeFault.TheVariants.{NotStarted, Memory}
use Rattle.gateway_serving.specs.Telling.{DoorsTold, StartAndStop, StartNone}
use Rattle.gateway_serving.specs.StoppedTours.{HaveToured, IsUnused}
use Rattle.gateway_serving.specs.Histories.{AreAccountsAfter}

-- The doors that were stopped, one for each worker, gave the connections of these tours. This is what the tours add up to, and
-- these are the accounts of the clients after them.
pub record EndsServing (s : Service) (workers connections : ℕ) (stopped : List Stopped) (end : ServeEnd) : Type 0 where
  pub tours : List Tour
  pub each : HaveToured s connections tours stopped
  pub count : length tours ≡ workers
  pub connections_are : end.done.connections ≡ connections_of tours
  pub exchanges : end.done.exchanges ≡ replies_of tours
  pub faults : end.done.faults ≡ faults_of tours
  pub clients : end.totals.clients.items.items ≡ s.rules.clients
  pub accounts : AreAccountsAfter s.rules.clients tours end.totals.accounts

-- Faults are told exactly where the count of a door rose.
abbrev pub TellsFaults : List Stopped → ServeEnd → Type 0
TellsFaults stopped end = nat_lt 0 end.done.faults ≡ list_any (λ door. door.rose) stopped

-- Where no faults are told each worker served all of its connections.
abbrev pub IsWholeIfCalm : ℕ → ℕ → ServeEnd → Type 0
IsWholeIfCalm workers connections end = end.done.faults ≡ 0 → end.done.connections ≡ workers * connections

-- So it was served.
abbrev pub WasServed : Service → Serving → DoorsTold → DoorsTold → ServeEnd → Type 0
WasServed s serving before now end =
    (stopped : List Stopped) × StartAndStop serving before now stopped × EndsServing s serving.workers serving.connections stopped end

-- Doors were started, one for each worker, and stopped before any of them gave a connection.
abbrev pub WasUnserved : Serving → DoorsTold → DoorsTold → Type 0
WasUnserved serving before now =
    (stopped : List Stopped) × StartAndStop serving before now stopped × (length stopped ≡ serving.workers) × All IsUnused stopped

-- It was served; or the doors were not started, and the count of their faults rose; or memory was wanting, before the doors
-- were started, where that count is as it was, or before the first connection.
abbrev pub ComesTo : Service → Serving → DoorsTold → DoorsTold → Result ServeEnd ServeFault → Type 0
ComesTo s serving before now (Ok end) = WasServed s serving before now end
ComesTo s serving before now (Err NotStarted) = StartNone before now × Rose before.faults now.faults
ComesTo s serving before now (Err Memory) = (StartNone before now × (now.faults ≡ before.faults)) ⊎ WasUnserved serving before now
