-- The open request of an id, and its place.
use Rattle.std.proofs.Common.{◌≡◌, ℕ, ◌+◌, ◌<◌, List, [], ◌∷◌, Bool, true, false, cond, refl, sym, ap, ◌∙◌, subst, arith, Some, None, length, get_or}
use Prim.Native.Nat.{zero, suc}
use Rattle.std.specs.Prelude.{bytes_eq, position, remove}
use Rattle.std.specs.List.{position_from}
use Rattle.std.proofs.lemmas.Bool.{cond-true, cond-false}
use Rattle.std.proofs.lemmas.Option.{none-some}
use Rattle.std.proofs.lemmas.List.Quantifiers.{position-Some}
use Rattle.std.proofs.lemmas.Iterator.Adapters.{position_from-zero}
use Rattle.gateway_replay.specs.declared.opened.Open.{Open}
use Rattle.gateway_replay.specs.Turns.{open_by, opens_without}
use Rattle.gateway_replay.specs.Stretches.{request_of, requests_of}

abbrev pub has_id : List ℕ → Open → Bool
has_id id o = bytes_eq o.id.now id

none_from : (opens : List Open) (id : List ℕ) (n : ℕ) → position_from (has_id id) n opens ≡ None → open_by id (requests_of opens) ≡ None
none_from [] id n is = refl
none_from (o ∷ os) id n is = by_id (has_id id o) is (none_from os id (n + 1))
  where
    by_id : (b : Bool) → cond b (Some n) (position_from (has_id id) (n + 1) os) ≡ None → (position_from (has_id id) (n + 1) os ≡ None → open_by id (requests_of os) ≡ None)
        → cond b (Some (request_of o)) (open_by id (requests_of os)) ≡ None
    by_id true e f = absurd (none-some n (sym e))
    by_id false e f = f e

pub nowhere : (opens : List Open) (id : List ℕ) → position (has_id id) opens ≡ None → open_by id (requests_of opens) ≡ None
nowhere opens id is = none_from opens id 0 (sym (position_from-zero (has_id id) opens) ∙ is)

-- the open request at a place is that of the id, and the others are left
pub record IsAt (id : List ℕ) (opens : List Open) (place : ℕ) (o : Open) : Type 0 where
  pub by_id : open_by id (requests_of opens) ≡ Some (request_of o)
  pub others : requests_of (remove opens place) ≡ opens_without id (requests_of opens)

first_at : (opens : List Open) (id : List ℕ) (place : ℕ) (d : Open) → place < length opens → has_id id (get_or opens place d) ≡ true → ((k : ℕ) → k < place → has_id id (get_or opens k d) ≡ false) → IsAt id opens place (get_or opens place d)
first_at [] id place d low here before = absurd (omega arith)
first_at (o ∷ os) id zero d low here before = record {
  by_id = cond-true (has_id id o) (Some (request_of o)) (open_by id (requests_of os)) here;
  others = sym (cond-true (has_id id o) (requests_of os) (request_of o ∷ opens_without id (requests_of os)) here);
}
first_at (o ∷ os) id (suc place) d low here before =
    let rest = first_at os id place d (omega arith) here (λ k h. before (suc k) (omega arith)) in
    let away = before zero (omega arith) in
    record {
      by_id = cond-false (has_id id o) (Some (request_of o)) (open_by id (requests_of os)) away ∙ rest.by_id;
      others = ap (λ l. request_of o ∷ l) rest.others ∙ sym (cond-false (has_id id o) (requests_of os) (request_of o ∷ opens_without id (requests_of os)) away);
    }

pub at_place : (opens : List Open) (id : List ℕ) (place : ℕ) (o : Open) → position (has_id id) opens ≡ Some place → o ≡ get_or opens place o → IsAt id opens place o
at_place opens id place o at is =
    let h = position-Some (has_id id) opens place o at in
    subst (IsAt id opens place) (sym is) (first_at opens id place o h.0 h.1 h.2)
