-- Members by their keys, where each key stands once.
use Rattle.std.proofs.Common.{◌≡◌, ◌∙◌, ℕ, List, Bool, true, false, Option, Some, None, Ordering, Less, Equal, Greater, nat_cmp, is_eq, bytes_eq, true≢false, refl, sym, ap}
use Rattle.std.proofs.lemmas.Cmp.{nat_list_cmp_total, tied_itself}
use Rattle.std.proofs.lemmas.Map.Text.{is_eq-slice_cmp}
use Rattle.std.proofs.lemmas.Option.{none-some}
use Rattle.std.proofs.lemmas.Slice.Eq.{bytes_eq-Decides}
use Rattle.std.specs.Cmp.Lexicographic.{slice_cmp}
use Rattle.std.specs.Ordering.{match_ordering}
use Rattle.serde_json.specs.Data.{Data, Members, member}
use Rattle.serde_json.specs.Find.{get_member}

pub same_bytes : (a b : List ℕ) → bytes_eq a b ≡ true → a ≡ b
same_bytes a b same = (bytes_eq-Decides a b).0 same

pub equal_bytes : (a : List ℕ) → bytes_eq a a ≡ true
equal_bytes a = (bytes_eq-Decides a a).1 refl

pub other_bytes : (a b : List ℕ) → (a ≡ b → ⊥) → bytes_eq a b ≡ false
other_bytes a b apart = by_test (bytes_eq a b) refl
  where
    by_test : (r : Bool) → bytes_eq a b ≡ r → r ≡ false
    by_test true same = absurd (apart (same_bytes a b same))
    by_test false other = refl

pub by_cases : (a b : List ℕ) (P : Type 0) → (a ≡ b → P) → ((a ≡ b → ⊥) → P) → P
by_cases a b P same apart = by_test (bytes_eq a b) refl
  where
    by_test : (r : Bool) → bytes_eq a b ≡ r → P
    by_test true is = same (same_bytes a b is)
    by_test false is = apart (λ e. true≢false (sym (ap (bytes_eq a) (sym e) ∙ equal_bytes a) ∙ is))

pub found_here : (key : List ℕ) (d : Data) (others : Members) → get_member key (member key d others) ≡ Some d
found_here key d others = ap (λ o. match_ordering o (get_member key others) (Some d) (get_member key others)) (tied_itself nat_list_cmp_total key)

passed : (o : Ordering) (a b : Option Data) → is_eq o ≡ false → match_ordering o a b a ≡ a
passed Less a b other = refl
passed Equal a b other = absurd (true≢false other)
passed Greater a b other = refl

-- another key stands among the other members
pub found_later : (key other : List ℕ) (d : Data) (others : Members) → (key ≡ other → ⊥) → get_member key (member other d others) ≡ get_member key others
found_later key other d others apart = passed (slice_cmp nat_cmp key other) (get_member key others) (Some d) (is_eq-slice_cmp key other ∙ other_bytes key other apart)

pub another_key : (key name : List ℕ) (d : Data) (others : Members) → get_member key others ≡ None → get_member name others ≡ Some d → key ≡ name → ⊥
another_key key name d others none some same = none-some d (sym (ap (λ k. get_member k others) (sym same) ∙ none) ∙ some)
