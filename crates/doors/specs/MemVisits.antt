-- The visits of a door in memory.
use Rattle.std.specs.Prelude.{List, map, Option, Some}
use Rattle.doors.specs.Visits.{Told, Visit}
use Rattle.doors.specs.declared.conn.Conn.{Conn}
use Rattle.doors.specs.declared.mem_door.MemVisit.{MemVisit}

-- a visit, by what a connection tells
abbrev pub visit_by : {S K W C : Type 0} → (Conn S K W C → Told) → MemVisit S K W C → Visit
visit_by told visit = record { given = told visit.given; back = told visit.back; ending = visit.end }

-- the visits that are kept
abbrev pub visits_by : {S K W C : Type 0} → (Conn S K W C → Told) → List (MemVisit S K W C) → Option (List Visit)
visits_by told visits = Some (map (visit_by told) visits)
