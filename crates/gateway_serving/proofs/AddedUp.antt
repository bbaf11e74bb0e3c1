-- What the tours of stopped doors add up to.
use Rattle.std.proofs.Common.{◌≡◌, ℕ, ◌+◌, ◌*◌, Bool, true, false, ◌||◌, List, [], ◌∷◌, length, refl, sym, ap, ◌∙◌, arith, nat_lt}
use Rattle.std.proofs.lemmas.Bool.{lt-ltb}
use Rattle.std.specs.List.{list_any}
use Rattle.doors.specs.Starts.{Stopped}
use Rattle.gateway_workers.specs.Decisions.{Service}
use Rattle.gateway_workers.specs.Tours.{Tour, one_if, connections_of, faults_of}
use Rattle.gateway_serving.specs.declared.ending.ServeEnd.{ServeEnd}
use Rattle.gateway_serving.specs.StoppedTours.{HaveToured, given_by}
use Rattle.gateway_serving.specs.Ends.{EndsServing}

given : (s : Service) (connections : ℕ) (tours : List Tour) (stopped : List Stopped) → HaveToured s connections tours stopped → connections_of tours ≡ given_by stopped
unfolding HaveToured connections_of given_by
given s connections [] [] have = refl
given s connections [] (door ∷ stopped) have = absurd have
given s connections (tour ∷ tours) [] have = absurd have
given s connections (tour ∷ tours) (door ∷ stopped) have = omega (arith, have.0.gave, given s connections tours stopped have.1)

pub connections_given : (s : Service) (workers connections : ℕ) (stopped : List Stopped) (end : ServeEnd) → EndsServing s workers connections stopped end → end.done.connections ≡ given_by stopped
connections_given s workers connections stopped end ends = ends.connections_are ∙ given s connections ends.tours stopped ends.each

one_more : (failed : Bool) (count : ℕ) → nat_lt 0 (one_if failed + count) ≡ (failed || nat_lt 0 count)
one_more true count = lt-ltb 0 (1 + count) (omega arith)
one_more false count = ap (λ n. nat_lt 0 n) (omega arith)

rising : (s : Service) (connections : ℕ) (tours : List Tour) (stopped : List Stopped) → HaveToured s connections tours stopped → nat_lt 0 (faults_of tours) ≡ list_any (λ door. door.rose) stopped
unfolding HaveToured faults_of
rising s connections [] [] have = refl
rising s connections [] (door ∷ stopped) have = absurd have
rising s connections (tour ∷ tours) [] have = absurd have
rising s connections (tour ∷ tours) (door ∷ stopped) have =
    one_more tour.failed (faults_of tours) ∙ (λ i. sym have.0.rose i || rising s connections tours stopped have.1 i)

pub faults_rising : (s : Service) (workers connections : ℕ) (stopped : List Stopped) (end : ServeEnd) → EndsServing s workers connections stopped end → nat_lt 0 end.done.faults ≡ list_any (λ door. door.rose) stopped
faults_rising s workers connections stopped end ends = ap (λ n. nat_lt 0 n) ends.faults ∙ rising s connections ends.tours stopped ends.each

not_failed : (failed : Bool) (count : ℕ) → one_if failed + count ≡ 0 → (failed ≡ false) × (count ≡ 0)
not_failed true count none = absurd (omega (arith, none))
not_failed false count none = (refl, omega (arith, none))

whole : (s : Service) (connections : ℕ) (tours : List Tour) (stopped : List Stopped) → HaveToured s connections tours stopped → faults_of tours ≡ 0 → connections_of tours ≡ length tours * connections
unfolding HaveToured connections_of faults_of
whole s connections [] [] have none = omega arith
whole s connections [] (door ∷ stopped) have none = absurd have
whole s connections (tour ∷ tours) [] have none = absurd have
whole s connections (tour ∷ tours) (door ∷ stopped) have none =
    let calm = not_failed tour.failed (faults_of tours) none in
    let gave : length tour.runs ≡ connections = sym have.0.gave ∙ have.0.whole (have.0.rose ∙ calm.0) in
    omega (arith, gave, whole s connections tours stopped have.1 calm.1)

pub calm_whole : (s : Service) (workers connections : ℕ) (stopped : List Stopped) (end : ServeEnd) → EndsServing s workers connections stopped end → end.done.faults ≡ 0 → end.done.connections ≡ workers * connections
calm_whole s workers connections stopped end ends none =
    ends.connections_are ∙ (whole s connections ends.tours stopped ends.each (sym ends.faults ∙ none) ∙ ap (λ n. n * connections) ends.count)
