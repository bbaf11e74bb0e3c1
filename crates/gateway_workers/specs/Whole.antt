-- Doors that were served whole.
use Rattle.std.specs.Prelude.{◌≡◌, ℕ, ◌≤◌, List, All}
use Rattle.doors.specs.Starts.{DoorMembers}
use Rattle.gateway_workers.specs.Tours.{Tour, faults_of}

-- no door failed, and each had at least so many connections to come
pub record NoneFailed {D : Type 0} (t : DoorMembers D) (most : ℕ) (doors : List D) (tours : List Tour) : Type 0 where
  pub enough : All (λ d. most ≤ t.to_come d) doors
  pub calm : faults_of tours ≡ 0
