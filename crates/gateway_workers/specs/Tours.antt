-- Connections that a worker served, one after the other.
use Rattle.std.specs.Prelude.{◌≡◌, ◌⊎◌, ℕ, ◌+◌, ◌≤◌, min, List, [], ◌∷◌, ◌++◌, map, length, Bool, true, false, ⊤}
use Rattle.account_shared.specs.Gains.{ClientCall}
use Rattle.outside.specs.Faults.{Rose}
use Rattle.doors.specs.Visits.{Told, Visit, Gained}
use Rattle.doors.specs.Starts.{DoorMembers, members}
use Rattle.doors.specs.declared.door.Door.{Ghosts as DoorTells}
use Rattle.gateway_connections.specs.PassedOn.{numbers_taken}
use Rattle.gateway_connections.specs.declared.ending.Served.{Served}
use Rattle.gateway_connections.specs.declared.ending.ConnectionEnd.TheVariants as ending
use Rattle.gateway_connections.specs.Exchanges.{Service}
use Rattle.gateway_connections.specs.Connections.{end_number}
use Rattle.gateway_connections.specs.Serving.{Runs}

-- what a door tells, as one
abbrev pub door_members : {D S K W C : Type 0} → DoorTells D S K W C → DoorMembers D
door_members door = members door.out door.to_come door.faults door.visits

-- A connection that was served: what its objects told before and after, its calls at the accounts, and what came of it.
pub record Run : Type 0 where
  pub given : Told
  pub back : Told
  pub calls : List ClientCall
  pub served : Served

-- Its end has its cause: the source, or the sink, is blamed only where the count of its faults rose.
pub record HasCause (r : Run) : Type 0 where
  pub read : r.served.end ≡ ending.ReadFault → Rose r.given.read_faults r.back.read_faults
  pub written : r.served.end ≡ ending.WriteFault → Rose r.given.write_faults r.back.write_faults

-- These connections were served, one after the other, behind so many numbers of calls.
unfoldable pub AreRuns : Service → ℕ → List Run → Type 0
AreRuns s made [] = ⊤
AreRuns s made (r ∷ rs) = (Runs s made r.given r.back r.calls r.served × HasCause r) × AreRuns s (made + numbers_taken s.slots r.calls) rs

-- as its door tells it
abbrev pub visit_of : Run → Visit
visit_of r = record { given = r.given; back = r.back; ending = end_number r.served.end }

abbrev pub visits_of : List Run → List Visit
visits_of rs = map visit_of rs

unfoldable pub calls_in : List Run → List ClientCall
calls_in [] = []
calls_in (r ∷ rs) = r.calls ++ calls_in rs

unfoldable pub replies_in : List Run → ℕ
replies_in [] = 0
replies_in (r ∷ rs) = r.served.replies + replies_in rs

-- what came of a door: the connections that were served, and whether it failed
pub record Tour : Type 0 where
  pub runs : List Run
  pub failed : Bool

-- A door served this tour, of at most so many connections: a door that didn't fail served as many as it had, up to that.
pub record IsTour {D : Type 0} (t : DoorMembers D) (s : Service) (most : ℕ) (before after : D) (tour : Tour) : Type 0 where
  pub runs : AreRuns s 0 tour.runs
  pub visits : Gained (t.visits before) (visits_of tour.runs) (t.visits after)
  pub to_come : t.to_come before ≡ t.to_come after + length tour.runs
  pub few : length tour.runs ≤ most
  pub free : t.out after ≡ false
  pub ends : ((tour.failed ≡ false) × (t.faults after ≡ t.faults before) × (length tour.runs ≡ min most (t.to_come before)))
      ⊎ ((tour.failed ≡ true) × Rose (t.faults before) (t.faults after))

-- each door, in their order
unfoldable pub AreTours : {D : Type 0} → DoorMembers D → Service → ℕ → List D → List D → List Tour → Type 0
AreTours t s most [] [] [] = ⊤
AreTours t s most (d ∷ ds) (e ∷ es) (tour ∷ tours) = IsTour t s most d e tour × AreTours t s most ds es tours
AreTours t s most _ _ _ = ⊥

-- ---- what they add up to

unfoldable pub connections_of : List Tour → ℕ
connections_of [] = 0
connections_of (tour ∷ tours) = length tour.runs + connections_of tours

unfoldable pub replies_of : List Tour → ℕ
replies_of [] = 0
replies_of (tour ∷ tours) = replies_in tour.runs + replies_of tours

abbrev pub one_if : Bool → ℕ
one_if true = 1
one_if false = 0

unfoldable pub faults_of : List Tour → ℕ
faults_of [] = 0
faults_of (tour ∷ tours) = one_if tour.failed + faults_of tours
