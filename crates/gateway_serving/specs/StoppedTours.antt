-- Doors that were stopped, and the connections that each of them gave.
use Rattle.std.specs.Prelude.{◌≡◌, ℕ, ◌+◌, List, [], ◌∷◌, length, false, IfSome, ⊤}
use Rattle.doors.specs.Starts.{Stopped}
use Rattle.gateway_workers.specs.Decisions.{Service}
use Rattle.gateway_workers.specs.Tours.{Tour, AreRuns, visits_of}

-- A door that was to give so many connections, and gave those of this tour: it tells their visits, where it tells any, and their
-- number. Its count of faults rose exactly where it failed, and else it gave all.
pub record HasToured (s : Service) (connections : ℕ) (tour : Tour) (stopped : Stopped) : Type 0 where
  pub runs : AreRuns s 0 tour.runs
  pub visits : IfSome stopped.visits (λ visits. visits ≡ visits_of tour.runs)
  pub gave : stopped.gave ≡ length tour.runs
  pub rose : stopped.rose ≡ tour.failed
  pub whole : stopped.rose ≡ false → stopped.gave ≡ connections

-- each door, in their order
unfoldable pub HaveToured : Service → ℕ → List Tour → List Stopped → Type 0
HaveToured s connections [] [] = ⊤
HaveToured s connections (tour ∷ tours) (stopped ∷ others) = HasToured s connections tour stopped × HaveToured s connections tours others
HaveToured s connections _ _ = ⊥

-- how many connections they gave together
unfoldable pub given_by : List Stopped → ℕ
given_by [] = 0
given_by (stopped ∷ others) = stopped.gave + given_by others

-- A door that gave no connection and didn't fail.
pub record IsUnused (stopped : Stopped) : Type 0 where
  pub calm : stopped.rose ≡ false
  pub none : stopped.gave ≡ 0
  pub visits : IfSome stopped.visits (λ visits. visits ≡ [])
