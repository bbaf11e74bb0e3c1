-- Looking for definitions one by one.
use Rattle.std.proofs.Common.{ℕ, suc, ◌+◌, ◌≡◌, ◌≤◌, ◌<◌, Bool, true, false, List, length, drop, get_or, Option, None, Some, Result, Ok, Bor, refl, sym, ap, ◌∙◌, arith}
use Rattle.std.specs.Prelude.{if◌then◌else◌}
use Rattle.std.proofs.lemmas.List.{drop_all}
use Rattle.gql_base.proofs.Lists.{at_front}
use Rattle.document_reader.specs.declared.trees.Definition.{Definition}
use Rattle.document_reader.specs.declared.picking.PickFault.{PickFault}
use Rattle.document_reader.specs.Picking.{is_operation, is_named, first_where, count_where, picked_with, picked, there, asked}

pub first_passes : (test : Definition → Bool) (ds : List Definition) (at : ℕ) (d : Definition) → at < length ds → d ≡ get_or ds at d → test d ≡ true → first_where test at (drop at ds) ≡ Some at
unfolding first_where
first_passes test ds at d h is t = rw (at_front ds at d h is, t) refl

pub first_fails : (test : Definition → Bool) (ds : List Definition) (at : ℕ) (d : Definition) → at < length ds → d ≡ get_or ds at d → test d ≡ false → first_where test at (drop at ds) ≡ first_where test (at + 1) (drop (at + 1) ds)
unfolding first_where
first_fails test ds at d h is t = let e : suc at ≡ at + 1 = omega arith in rw (at_front ds at d h is, t) (ap (λ n. first_where test n (drop (at + 1) ds)) e)

pub first_none : (test : Definition → Bool) (ds : List Definition) (at : ℕ) → length ds ≤ at → first_where test at (drop at ds) ≡ None
unfolding first_where
first_none test ds at h = rw (drop_all at ds h) refl

pub count_next : (test : Definition → Bool) (ds : List Definition) (at : ℕ) (d : Definition) (b : Bool) → at < length ds → d ≡ get_or ds at d → test d ≡ b → count_where test (drop at ds) ≡ (if b then 1 else 0) + count_where test (drop (at + 1) ds)
unfolding count_where
count_next test ds at d b h is t = rw (at_front ds at d h is, t) refl

pub count_none : (test : Definition → Bool) (ds : List Definition) (at : ℕ) → length ds ≤ at → count_where test (drop at ds) ≡ 0
unfolding count_where
count_none test ds at h = rw (drop_all at ds h) refl

abbrev SamePick : Result ℕ PickFault → Result ℕ PickFault → Type 0
SamePick a b = a ≡ b

-- the operation with the name that is asked for
pub picked_there : (name : Option (Bor (List ℕ))) (n : Bor (List ℕ)) (ds slice : List Definition) (first place : ℕ) → name ≡ Some n → slice ≡ ds → Some first ≡ first_where is_operation 0 slice → Some place ≡ first_where (is_named n.now) 0 slice → SamePick (Ok place) (picked (asked name) ds)
picked_there name n ds slice first place is same e f = ap there f ∙ (ap (picked_with (Some n.now) slice) e ∙ (ap (λ d. picked (Some n.now) d) same ∙ ap (λ m. picked (asked m) ds) (sym is)))
