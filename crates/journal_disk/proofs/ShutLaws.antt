-- What one disk more that was shut does to what names hold.
use Rattle.std.proofs.Common.{◌≡◌, List, [], ◌∷◌, ◌++◌, ℕ, ◌-◌, Bool, true, false, cond, length, Option, Some, Vec, Global, refl, sym, ◌∙◌, ap, arith, length-append}
use Rattle.std.specs.Prelude.{nat_eq, find, reverse, option_map, unwrap_or, slice_get}
use Rattle.std.specs.Cmp.Lexicographic.{pointwise, same_text, other_text}
use Rattle.std.proofs.lemmas.List.{reverse-append}
use Rattle.std.proofs.lemmas.Option.{same_Some}
use Rattle.journal_disk.specs.declared.mem_disks.ShutDisk.{ShutDisk}
use Rattle.journal_disk.specs.Shutting.{has_name, held_by}

same_name : (xs ys : List ℕ) (b : Bool) → b ≡ pointwise nat_eq xs ys → xs ≡ ys → b ≡ true
same_name xs ys true is same = refl
same_name xs ys false is same = absurd (other_text xs ys is same)

other_name : (xs ys : List ℕ) (b : Bool) → b ≡ pointwise nat_eq xs ys → (xs ≡ ys → ⊥) → b ≡ false
other_name xs ys true is isnt = absurd (isnt (same_text xs ys is))
other_name xs ys false is isnt = refl

module _ (first : List ℕ) (shut now : List ShutDisk) (it : ShutDisk) (pushed : now ≡ shut ++ it ∷ []) where
  found : (name : List ℕ) (b : Bool) → has_name name it ≡ b → held_by first now name ≡ unwrap_or (option_map (λ i. i.disk.bytes.items) (cond b (Some it) (find (has_name name) (reverse shut)))) first
  found name b is =
      ap (λ (l : List ShutDisk). unwrap_or (option_map (λ i. i.disk.bytes.items) (find (has_name name) l)) first) (ap reverse pushed ∙ reverse-append shut (it ∷ []))
      ∙ ap (λ (b : Bool). unwrap_or (option_map (λ i. i.disk.bytes.items) (cond b (Some it) (find (has_name name) (reverse shut)))) first) is

  pub holds_it : (name : List ℕ) → it.name.items ≡ name → held_by first now name ≡ it.disk.bytes.items
  holds_it name same = found name true (same_name it.name.items name (has_name name it) refl same)

  pub holds_others : (name : List ℕ) → (it.name.items ≡ name → ⊥) → held_by first now name ≡ held_by first shut name
  holds_others name isnt = found name false (other_name it.name.items name (has_name name it) refl isnt)

  -- it is the latest
  pub is_last : slice_get now (length now - 1) ≡ Some it
  is_last = ap (λ (l : List ShutDisk). slice_get l (length l - 1)) pushed ∙ ap (slice_get (shut ++ it ∷ [])) (omega (arith, length-append shut (it ∷ []))) ∙ at_end shut
    where
      at_end : (l : List ShutDisk) → slice_get (l ++ it ∷ []) (length l) ≡ Some it
      at_end [] = refl
      at_end (x ∷ l) = at_end l

-- the name of the disk that was open
pub name_is : (at : Option (Vec ℕ Global)) (name : Vec ℕ Global) (own : List ℕ) → at ≡ Some name → option_map (λ it. it.items) at ≡ Some own → name.items ≡ own
name_is at name own is opened = same_Some name.items own (ap (option_map (λ it. it.items)) (sym is) ∙ opened)
