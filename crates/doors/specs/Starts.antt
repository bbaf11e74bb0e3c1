-- Doors that are started and stopped together.
use Rattle.std.specs.Prelude.{◌≡◌, ℕ, ◌-◌, List, Bool, false, Option, Some, None, nat_lt}
use Rattle.doors.specs.Visits.{Visit, HasNoVisit}

-- what each door tells, as one
pub record DoorMembers (D : Type 0) : Type 0 where
  pub out : D → Bool
  pub to_come : D → ℕ
  pub faults : D → ℕ
  pub visits : D → Option (List Visit)

-- the same by its members
abbrev pub members : {D : Type 0} → (D → Bool) → (D → ℕ) → (D → ℕ) → (D → Option (List Visit)) → DoorMembers D
members out to_come faults visits = record { out = out; to_come = to_come; faults = faults; visits = visits }

-- a door as it is started: none is out, so many connections are to come, and it has neither faults nor visits
pub record IsNew {D : Type 0} (members : DoorMembers D) (connections : ℕ) (door : D) : Type 0 where
  pub free : members.out door ≡ false
  pub to_come : members.to_come door ≡ connections
  pub calm : members.faults door ≡ 0
  pub fresh : HasNoVisit (members.visits door)

-- what the doors were started with: the address to listen at, that of the upstream, the number of workers, and
-- how many connections each of them is to serve
pub record Asked : Type 0 where
  pub listen : List ℕ
  pub upstream : List ℕ
  pub workers : ℕ
  pub connections : ℕ

-- how many connections each door was to give, and none where no door was started
abbrev pub connections_of : Option Asked → ℕ
connections_of None = 0
connections_of (Some asked) = asked.connections

-- A door that was stopped: whether its count of faults rose since it was started, how many connections it gave,
-- and its visits, where it tells them.
pub record Stopped : Type 0 where
  pub rose : Bool
  pub gave : ℕ
  pub visits : Option (List Visit)

-- A door that was to give so many connections, as it is told when it is stopped: by its count of faults, how many
-- connections were still to come, and its visits.
abbrev pub stopped_with : ℕ → ℕ → ℕ → Option (List Visit) → Stopped
stopped_with connections faults to_come visits =
    record { rose = nat_lt 0 faults; gave = connections - to_come; visits = visits }

-- the same by what the door tells
abbrev pub stopped_by : {D : Type 0} → DoorMembers D → ℕ → D → Stopped
stopped_by members connections door =
    stopped_with connections (members.faults door) (members.to_come door) (members.visits door)
