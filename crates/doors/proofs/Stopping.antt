-- Doors that are kept tell what they told when they were stopped; new doors have no visits.
use Rattle.std.proofs.Common.{arith, ◌≡◌, ℕ, ◌++◌, List, [], ◌∷◌, map, length, All, Bool, true, false, if◌then◌else◌, refl, ap, ◌∙◌}
use Rattle.std.proofs.lemmas.List.Elements.{All-nil, All-push, All-same}
use Rattle.doors.specs.Starts.{DoorMembers, stopped_by}
use Rattle.doors.specs.Kept.{stopped_door, told_stopped}
use Rattle.doors.specs.declared.starting.StoppedDoor.{StoppedDoor}

each_told : {D : Type 0} (members : DoorMembers D) (n : ℕ) (doors : List D)
    → map (told_stopped members) (map (stopped_door n) doors) ≡ map (stopped_by members n) doors
each_told members n [] = refl
each_told members n (door ∷ doors) = ap (λ rest. stopped_by members n door ∷ rest) (each_told members n doors)

more_told : {D : Type 0} (members : DoorMembers D) (n : ℕ) (kept : List (StoppedDoor D)) (doors : List D)
    → map (told_stopped members) (kept ++ map (stopped_door n) doors)
    ≡ map (told_stopped members) kept ++ map (stopped_by members n) doors
more_told members n [] doors = each_told members n doors
more_told members n (one ∷ kept) doors = ap (λ rest. told_stopped members one ∷ rest) (more_told members n kept doors)

pub stopping : {D : Type 0} (members : DoorMembers D) (n : ℕ) (new old : List (StoppedDoor D)) (doors : List D)
    → new ≡ old ++ map (stopped_door n) doors
    → map (told_stopped members) new ≡ map (told_stopped members) old ++ map (stopped_by members n) doors
stopping members n new old doors is = ap (map (told_stopped members)) is ∙ more_told members n old doors

-- each door has it, also after one more that has it was pushed, or none
pub pushed : {D : Type 0} (P : D → Type 0) (ok : Bool) (new old : List D) (door : D)
    → new ≡ (if ok then old ++ door ∷ [] else old) → All P old → P door → All P new
pushed P true new old door is each this = All-same P new (old ++ door ∷ []) is (All-push P old door each this)
pushed P false new old door is each this = All-same P new old is each

pub none_left : {D : Type 0} (P : D → Type 0) (doors : List D) → doors ≡ [] → All P doors
none_left P doors is = All-same P doors [] is (All-nil P)

-- of no items there are none
pub none_of_none : {A B : Type 0} (f : A → B) (xs : List A) → length xs ≡ 0 → map f xs ≡ []
none_of_none f [] none = refl
none_of_none f (x ∷ xs) none = absurd (omega (arith, none))
