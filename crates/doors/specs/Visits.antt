-- What the objects of a connection tell, and the visits of a door.
use Rattle.std.specs.Prelude.{◌≡◌, ℕ, List, [], ◌∷◌, ◌++◌, Option, Some, None}
use Rattle.outside.specs.Dials.{Dial}

-- What the four objects of a connection tell at one moment: the bytes left of the source, the bytes written on
-- the sink, the readings to come of the clock, the log of the wire, and the counts of their faults.
pub record Told : Type 0 where
  pub left : Option (List ℕ)
  pub written : Option (List ℕ)
  pub readings : Option (List ℕ)
  pub log : Option (List Dial)
  pub read_faults : ℕ
  pub write_faults : ℕ
  pub dial_faults : ℕ
  pub transfer_faults : ℕ

-- One visit: what the objects of a connection told when it was given, what they told when it was handed back, and
-- the number of its end.
pub record Visit : Type 0 where
  pub given : Told
  pub back : Told
  pub ending : ℕ

-- what a door tells of a connection that it gives: only a door that tells its visits tells it
abbrev pub given_by : Option (List Visit) → Told → Option Told
given_by None told = None
given_by (Some visits) told = Some told

-- the visits after the connection that was out came back, where they are told
abbrev pub after_visit : Option (List Visit) → Option Told → Told → ℕ → Option (List Visit)
after_visit (Some visits) (Some given) back ending =
    Some (visits ++ record { given = given; back = back; ending = ending } ∷ [])
after_visit visits given back ending = None

-- the visits, where they are told, have grown by these
abbrev pub Gained : Option (List Visit) → List Visit → Option (List Visit) → Type 0
Gained None visits after = after ≡ None
Gained (Some before) visits after = after ≡ Some (before ++ visits)

-- no visit is told
abbrev pub HasNoVisit : Option (List Visit) → Type 0
HasNoVisit None = Unit {0}
HasNoVisit (Some visits) = visits ≡ []
