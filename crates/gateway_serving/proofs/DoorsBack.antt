-- Doors that were new, once they are stopped behind their tours.
use Rattle.std.proofs.Common.{◌≡◌, ◌⊎◌, inl, inr, ℕ, suc, ◌-◌, Bool, true, false, true≢false, List, [], ◌∷◌, ◌++◌, Option, Some, None, length, map, refl, sym, ap, ◌∙◌, subst, arith, nat_lt, min}
use Rattle.std.proofs.lemmas.Bool.{lt-ltb}
use Rattle.std.specs.Prelude.{IfSome}
use Rattle.std.specs.List.{AllByRecursion}
use Rattle.outside.specs.Faults.{Rose}
use Rattle.doors.specs.Visits.{Visit, Gained, HasNoVisit}
use Rattle.doors.specs.Starts.{DoorMembers, IsNew, stopped_by}
use Rattle.gateway_workers.specs.Decisions.{Service}
use Rattle.gateway_workers.specs.Tours.{Tour, visits_of, IsTour, AreTours}
use Rattle.gateway_serving.specs.StoppedTours.{HasToured, HaveToured, IsUnused}

-- a count that rose is above 0
pub has_risen : (before after : ℕ) → Rose before after → nat_lt 0 after ≡ true
has_risen before after rose = lt-ltb 0 after (elim rose [ inl less ↦ omega (arith, less) | inr last ↦ omega (arith, last) ])

pub told_visits : (before after : Option (List Visit)) (visits : List Visit) → HasNoVisit before → Gained before visits after → IfSome after (λ told. told ≡ visits)
told_visits None after visits none gained = subst (λ o. IfSome o (λ told. told ≡ visits)) (sym gained) tt
told_visits (Some old) after visits none gained = subst (λ o. IfSome o (λ told. told ≡ visits)) (sym gained) (ap (λ l. l ++ visits) none)

-- whether the count rose, and what that says of how many connections it gave
pub record EndsBy (connections faults gave : ℕ) (failed : Bool) : Type 0 where
  rose : nat_lt 0 faults ≡ failed
  whole : nat_lt 0 faults ≡ false → gave ≡ connections

ends_by : (connections before after ran to_come : ℕ) (failed : Bool) → before ≡ 0 → to_come ≡ connections → ((failed ≡ false) × (after ≡ before) × (ran ≡ min connections to_come)) ⊎ ((failed ≡ true) × Rose before after)
    → EndsBy connections after ran failed
ends_by connections before after ran to_come failed calm all ends = elim ends [
  | inl whole ↦ record { rose = ap (λ n. nat_lt 0 n) (whole.1 ∙ calm) ∙ sym whole.0; whole = λ none. omega (arith, whole.2, all) }
  | inr failing ↦ let rose = has_risen before after failing.1 in record { rose = rose ∙ sym failing.0; whole = λ none. absurd (true≢false (sym rose ∙ none)) }
]

has_toured : {D : Type 0} (t : DoorMembers D) (s : Service) (connections : ℕ) (door back : D) (tour : Tour) → IsNew t connections door → IsTour t s connections door back tour → HasToured s connections tour (stopped_by t connections back)
has_toured t s connections door back tour new is =
    let gave : connections - t.to_come back ≡ length tour.runs = omega (arith, is.to_come, new.to_come) in
    let ends = ends_by connections (t.faults door) (t.faults back) (length tour.runs) (t.to_come door) tour.failed new.calm new.to_come is.ends in
    record {
      runs = is.runs;
      visits = told_visits (t.visits door) (t.visits back) (visits_of tour.runs) new.fresh is.visits;
      gave = gave;
      rose = ends.rose;
      whole = λ none. gave ∙ ends.whole none;
    }

pub have_toured : {D : Type 0} (t : DoorMembers D) (s : Service) (connections : ℕ) (doors back : List D) (tours : List Tour) → AllByRecursion (IsNew t connections) doors → AreTours t s connections doors back tours
    → HaveToured s connections tours (map (stopped_by t connections) back)
unfolding AreTours HaveToured
have_toured t s connections [] [] [] new are = tt
have_toured t s connections [] [] (tour ∷ tours) new are = absurd are
have_toured t s connections [] (e ∷ back) tours new are = absurd are
have_toured t s connections (d ∷ doors) [] tours new are = absurd are
have_toured t s connections (d ∷ doors) (e ∷ back) [] new are = absurd are
have_toured t s connections (d ∷ doors) (e ∷ back) (tour ∷ tours) new are = (has_toured t s connections d e tour new.0 are.0, have_toured t s connections doors back tours new.1 are.1)

-- as many come back, and there are as many tours
pub as_many : {D : Type 0} (t : DoorMembers D) (s : Service) (most : ℕ) (doors back : List D) (tours : List Tour) → AreTours t s most doors back tours → (length back ≡ length doors) × (length tours ≡ length doors)
unfolding AreTours
as_many t s most [] [] [] are = (refl, refl)
as_many t s most [] [] (tour ∷ tours) are = absurd are
as_many t s most [] (e ∷ back) tours are = absurd are
as_many t s most (d ∷ doors) [] tours are = absurd are
as_many t s most (d ∷ doors) (e ∷ back) [] are = absurd are
as_many t s most (d ∷ doors) (e ∷ back) (tour ∷ tours) are = let rest = as_many t s most doors back tours are.1 in (ap suc rest.0, ap suc rest.1)

-- ---- new doors that gave none

told_none : (told : Option (List Visit)) → HasNoVisit told → IfSome told (λ visits. visits ≡ [])
told_none None none = tt
told_none (Some visits) none = none

is_unused : {D : Type 0} (t : DoorMembers D) (connections : ℕ) (door : D) → IsNew t connections door → IsUnused (stopped_by t connections door)
is_unused t connections door new = record {
  calm = ap (λ n. nat_lt 0 n) new.calm;
  none = omega (arith, new.to_come);
  visits = told_none (t.visits door) new.fresh;
}

pub are_unused : {D : Type 0} (t : DoorMembers D) (connections : ℕ) (doors : List D) → AllByRecursion (IsNew t connections) doors → AllByRecursion IsUnused (map (stopped_by t connections) doors)
are_unused t connections [] new = tt
are_unused t connections (door ∷ doors) new = (is_unused t connections door new.0, are_unused t connections doors new.1)
