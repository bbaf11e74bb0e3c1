-- What a list of calls on a disk comes to: what is read after them, and what a crash after them, or after some first ones
-- of them, may leave.
use Rattle.std.specs.Prelude.{◌≡◌, ◌≤◌, ◌<◌, ◌⊎◌, refl, ℕ, List, [], ◌∷◌, length, take, Option, Some, None}
use mathlib.Core.Path.{subst, sym}
use Rattle.std.proofs.Common.{inl, inr}
use Rattle.std.proofs.Math.Nat.{lt_irrefl, lt_of_le_of_lt}
use Rattle.journal_disk.specs.Images.{written_at, IsTorn}

pub data Call : Type 0 where
  wrote : (at : ℕ) (piece : List ℕ) → Call
  synced : Call

-- what is read after these calls on a file
unfoldable pub bytes_after : List ℕ → List Call → List ℕ
bytes_after file [] = file
bytes_after file (wrote at piece ∷ calls) = bytes_after (written_at at piece file) calls
bytes_after file (synced ∷ calls) = bytes_after file calls

-- an image after a write: one before it, torn by the write or with the whole of it
abbrev pub written_image : ℕ → List ℕ → (List ℕ → Type 0) → List ℕ → Type 0
written_image at piece image c = (d : List ℕ) × image d × (IsTorn at (length piece) d c ⊎ (c ≡ written_at at piece d))

-- what a crash may leave after these calls on a disk that reads as a file and has these images
unfoldable pub image_after : List ℕ → (List ℕ → Type 0) → List Call → List ℕ → Type 0
image_after file image [] c = image c
image_after file image (wrote at piece ∷ calls) c = image_after (written_at at piece file) (written_image at piece image) calls c
image_after file image (synced ∷ calls) c = image_after file (λ x. x ≡ file) calls c

-- the same for a file that is durable at first
abbrev pub image_after_all : List ℕ → List Call → List ℕ → Type 0
image_after_all first calls c = image_after first (λ x. x ≡ first) calls c

-- what a crash may leave after all calls, or may have left after the first so many, from the moment t on
abbrev pub image_from : List ℕ → List Call → ℕ → List ℕ → Type 0
image_from first calls t c = image_after_all first calls c ⊎ ((k : ℕ) × (t ≤ k) × (k < length calls) × image_after_all first (take k calls) c)

-- The laws that a disk in memory owes. They stand here, since a member of a trait that is only for proofs names nothing of
-- this crate's proofs.

-- what is read after the calls is an image after them
pub last_is_image : (file : List ℕ) (image : List ℕ → Type 0) (calls : List Call) → image file → image_after file image calls (bytes_after file calls)
unfolding image_after bytes_after
last_is_image file image [] here = here
last_is_image file image (wrote at piece ∷ calls) here =
    last_is_image (written_at at piece file) (written_image at piece image) calls (file, here, inr refl)
last_is_image file image (synced ∷ calls) here = last_is_image file (λ x. x ≡ file) calls refl

-- from the last moment on there is no image but the last ones
pub none_since_last : (first : List ℕ) (calls : List Call) (c : List ℕ) → image_from first calls (length calls) c → image_after_all first calls c
none_since_last first calls c (inl now) = now
none_since_last first calls c (inr earlier) = absurd (lt_irrefl (length calls) (lt_of_le_of_lt earlier.1 earlier.2))

-- what holds of bytes holds of those that are told
pub of_told : (P : List ℕ → Type 0) (read made told : List ℕ) → read ≡ made → Some read ≡ Some told → P made → P told
of_told P read made told same is here = subst (λ (o : Option (List ℕ)). P (bytes_or_none o)) is (subst P (sym same) here)
  where
    bytes_or_none : Option (List ℕ) → List ℕ
    bytes_or_none None = []
    bytes_or_none (Some bytes) = bytes
