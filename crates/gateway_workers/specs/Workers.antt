-- What one worker does, turn by turn.
use Rattle.std.specs.Prelude.{◌≡◌, ◌⊎◌, ℕ, ◌+◌, ◌*◌, ◌≤◌, min, List, [], ◌∷◌, map, length, ◌<◌, slice_index_or, true, false}
use Rattle.account_shared.specs.Views.{PassesView, AccountsView, Belongs, IsIdle}
use Rattle.account_shared.specs.Gains.{Gains}
use Rattle.outside.specs.Faults.{Rose}
use Rattle.doors.specs.Visits.{Gained}
use Rattle.doors.specs.Starts.{DoorMembers}
use Rattle.gateway_connections.specs.Exchanges.{Service}
use Rattle.gateway_workers.specs.declared.worker.Worker.{Worker}
use Rattle.gateway_workers.specs.declared.worker.Next.{Next}
use Rattle.gateway_workers.specs.declared.worker.Next.TheVariants.{One, Over, Failed}
use Rattle.gateway_workers.specs.Tours.{Run, AreRuns, visits_of, calls_in, replies_in, one_if, Tour, AreTours, connections_of, replies_of, faults_of}
use Rattle.gateway_workers.specs.declared.work_done.WorkDone.{WorkDone}
use Rattle.gateway_workers.specs.Joins.{JoinTours}

-- Between two moments the worker served these connections, and nothing else was done to its door and its passes.
pub record Did {D : Type 0} (t : DoorMembers D) (s : Service) (accounts : AccountsView) (v w : Worker D) (runs : List Run) : Type 0 where
  pub each : AreRuns s v.passes.made runs
  pub visits : Gained (t.visits v.door) (visits_of runs) (t.visits w.door)
  pub gains : Gains v.passes w.passes (calls_in runs)
  pub belong : Belongs w.passes accounts
  pub idle : IsIdle w.passes
  pub connections : w.connections ≡ v.connections + length runs
  pub replies : w.replies ≡ v.replies + replies_in runs
  pub to_come : t.to_come v.door ≡ t.to_come w.door + length runs
  pub free : t.out w.door ≡ false
  pub few : w.replies ≤ v.replies + 1000 * length runs
  pub made : w.passes.made ≤ v.passes.made + 2000 * length runs

-- One turn: a connection was served, the door had none, or it failed.
abbrev pub TurnIs : {D : Type 0} → DoorMembers D → Service → AccountsView → Worker D → Worker D → Next → Type 0
TurnIs t s accounts v w One = ((r : Run) × Did t s accounts v w (r ∷ [])) × (t.faults w.door ≡ t.faults v.door) × (w.failed ≡ v.failed)
TurnIs t s accounts v w Over = Did t s accounts v w [] × (t.faults w.door ≡ t.faults v.door) × (w.failed ≡ v.failed) × (t.to_come w.door ≡ 0)
TurnIs t s accounts v w Failed = Did t s accounts v w [] × Rose (t.faults v.door) (t.faults w.door) × (w.failed ≡ true)

-- a worker before its first connection: its passes were just split off
pub record Waits {D : Type 0} (t : DoorMembers D) (accounts : AccountsView) (v : Worker D) : Type 0 where
  pub belong : Belongs v.passes accounts
  pub idle : IsIdle v.passes
  pub fresh : v.passes.made ≡ 0
  pub free : t.out v.door ≡ false
  pub none : (v.connections ≡ 0) × (v.replies ≡ 0) × (v.failed ≡ false)

-- all that a worker did, with at most so many connections
pub record Worked {D : Type 0} (t : DoorMembers D) (s : Service) (accounts : AccountsView) (most : ℕ) (v w : Worker D) : Type 0 where
  pub runs : List Run
  pub did : Did t s accounts v w runs
  pub few : length runs ≤ most
  pub ends : ((w.failed ≡ false) × (t.faults w.door ≡ t.faults v.door) × (length runs ≡ min most (t.to_come v.door)))
      ⊎ ((w.failed ≡ true) × Rose (t.faults v.door) (t.faults w.door))

-- ---- lists of workers

-- each worker, at its place
abbrev pub AllWorked : {D : Type 0} → DoorMembers D → Service → AccountsView → ℕ → List (Worker D) → List (Worker D) → Type 0
AllWorked {D} t s accounts most vs ws = (k : ℕ) (d : Worker D) → k < length vs → Worked t s accounts most (slice_index_or vs k d) (slice_index_or ws k d)

unfoldable pub connections_in : {D : Type 0} → List (Worker D) → ℕ
connections_in [] = 0
connections_in (w ∷ ws) = w.connections + connections_in ws

unfoldable pub answers_in : {D : Type 0} → List (Worker D) → ℕ
answers_in [] = 0
answers_in (w ∷ ws) = w.replies + answers_in ws

unfoldable pub faults_in : {D : Type 0} → List (Worker D) → ℕ
faults_in [] = 0
faults_in (w ∷ ws) = one_if w.failed + faults_in ws

abbrev pub doors_of : {D : Type 0} → List (Worker D) → List D
doors_of ws = map (λ w. w.door) ws

abbrev pub passes_of : {D : Type 0} → List (Worker D) → List PassesView
passes_of ws = map (λ w. w.passes) ws

-- counts that a worker can have
abbrev pub IsCounted : {D : Type 0} → Worker D → Type 0
IsCounted w = (w.connections ≤ 4294967295) × (w.replies ≤ 4294967295000)

abbrev pub IsNewWorker : {D : Type 0} → Worker D → Type 0
IsNewWorker w = (w.connections ≡ 0) × (w.replies ≡ 0) × (w.failed ≡ false)

-- ---- all workers

-- The doors were served, each by its tour, and this is what the tours add up to; and the passes of all workers are joined.
pub record Serves {D : Type 0} (t : DoorMembers D) (s : Service) (most : ℕ) (before : PassesView) (doors : List D) (now : PassesView)
    (done : WorkDone) (back : List D) : Type 0 where
  pub tours : List Tour
  pub are_tours : AreTours t s most doors back tours
  pub joined : JoinTours before.label.splits tours before now
  pub connections : done.connections ≡ connections_of tours
  pub exchanges : done.exchanges ≡ replies_of tours
  pub faults : done.faults ≡ faults_of tours
