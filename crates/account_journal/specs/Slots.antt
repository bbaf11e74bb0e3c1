-- The slots of a file: which are present, and what stands behind them.
use Rattle.std.specs.Prelude.{◌≡◌, ◌≢◌, ◌⊎◌, ℕ, zero, suc, ◌+◌, ◌<◌, ◌&&◌, ◌==◌, nat_le, Bool, true, false, List, [], ◌∷◌, ◌++◌, length, take, drop, get_or, if◌then◌else◌, Option, Some, None}
use Rattle.std.specs.List.{AllByRecursion}
use Rattle.journal_disk.specs.Images.{IsDurable, CrashesLeave}

-- the slot at the front of a file is present: its gate is open, that is 1, and the gate of the next slot is in the file too
abbrev pub is_present : List ℕ → Bool
is_present file = nat_le 65 (length file) && (get_or file 0 0 == 1)

-- its body
abbrev pub first_body : List ℕ → List ℕ
first_body file = take 63 (drop 1 file)

-- the bodies of the present slots before the first that isn't, at most so many
unfoldable pub bodies_within : ℕ → List ℕ → List (List ℕ)
bodies_within zero file = []
bodies_within (suc most) file = if is_present file then take 63 (drop 1 file) ∷ bodies_within most (drop 64 file) else []

abbrev pub bodies : List ℕ → List (List ℕ)
bodies file = bodies_within (length file) file

-- present slots with these bodies
unfoldable pub open_slots : List (List ℕ) → List ℕ
open_slots [] = []
open_slots (body ∷ more) = 1 ∷ (body ++ open_slots more)

abbrev pub AreBodies : List (List ℕ) → Type 0
AreBodies slots = AllByRecursion (λ body. length body ≡ 63) slots

-- A file at rest may take the next slot: so many present slots, then a gate that isn't open, then whatever an append that a
-- crash cut short has left.
pub record IsAtRest (used : ℕ) (file : List ℕ) : Type 0 where
  pub slots : List (List ℕ)
  pub gate : ℕ
  pub behind : List ℕ
  pub shut : gate ≢ 1
  pub whole : AreBodies slots
  pub count : length slots ≡ used
  pub is : file ≡ open_slots slots ++ gate ∷ behind

-- a file has these slots, or these and one more
abbrev pub HasSlotOrNot : List (List ℕ) → List ℕ → List ℕ → Type 0
HasSlotOrNot slots body file = (bodies file ≡ slots) ⊎ (bodies file ≡ slots ++ body ∷ [])

-- the disk tells a file at rest with these slots, and the file is durable
pub record HoldsSlots (reads : Option (List ℕ)) (image : List ℕ → Type 0) (used : ℕ) (slots : List (List ℕ)) : Type 0 where
  pub file : List ℕ
  pub told : reads ≡ Some file
  pub rest : IsAtRest used file
  pub same : bodies file ≡ slots
  pub durable : IsDurable file image

-- the same slots as in a file and one more, at rest and durable
abbrev pub HoldsOneMore : Option (List ℕ) → (List ℕ → Type 0) → ℕ → List ℕ → List ℕ → Type 0
HoldsOneMore reads image used file body = HoldsSlots reads image (used + 1) (bodies file ++ body ∷ [])

-- where a disk tells a file that is durable, a crash at any moment of a run leaves one with its slots, or with these and one more
abbrev pub KeepsSlots : {D : Type 0} → (D → Option (List ℕ)) → (D → List ℕ → Type 0) → (D → ℕ) → (D → ℕ → List ℕ → Type 0) → D → D → List ℕ → List ℕ → Type 0
KeepsSlots reads image moment image_since old new file body =
    reads old ≡ Some file → IsDurable file (image old) → CrashesLeave moment image_since old new (HasSlotOrNot (bodies file) body)

-- what was found of the slot at the front of the rest of a file: its body where it is present
abbrev pub IsSlotRead : Option (List ℕ) → List ℕ → Type 0
IsSlotRead (Some body) rest = (is_present rest ≡ true) × (body ≡ first_body rest)
IsSlotRead None rest = is_present rest ≡ false

-- whether the gate at the front of the rest of a file is there and shut
abbrev pub IsGateRead : Bool → List ℕ → Type 0
IsGateRead true rest = (0 < length rest) × (get_or rest 0 0 ≢ 1)
IsGateRead false rest = (length rest ≡ 0) ⊎ (get_or rest 0 0 ≡ 1)
