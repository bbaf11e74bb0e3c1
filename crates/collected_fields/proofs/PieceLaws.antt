-- Lists that are cut into pieces, each of which has a number.
use Rattle.std.proofs.Common.{◌≡◌, ℕ, ◌<◌, ◌≤◌, ◌+◌, List, [], ◌∷◌, ◌++◌, Vec, flat_map, take, length, get_or, Option, None, Some, append-nil, append_assoc, sym, ap, ◌∙◌, subst}
use Rattle.std.specs.declared.alloc.Global.{Global}
use Rattle.std.specs.Option.{IfSome}
use Rattle.std.proofs.lemmas.Grind.{flat_map-append}
use Rattle.std.proofs.lemmas.List.{take_more, take_all}
use Rattle.std.proofs.lemmas.List.Elements.{All-nil, All-push}
use Rattle.plan_model.specs.Repeats.{LeavesOutRepeats}
use Rattle.collected_fields.specs.declared.joins.Joins.{Joins}
use Rattle.collected_fields.specs.Lists.{sets_in_joins, IsNumberIn, AreNumbersIn, HasMore, MayStandForList, StandFor, AreFor, AreForBefore, PutsPiece}
use Rattle.collected_fields.proofs.FinishLaws.{one_known}
use Rattle.collected_fields.proofs.ListLaws.{still_numbers, same_sets}

-- ---- the number of a piece behind others

pub piece_put : (old new : Joins) (piece numbers others : List ℕ) (number : ℕ) → others ≡ numbers ++ (number ∷ []) → HasMore old new → MayStandForList new piece (Some number) → PutsPiece old new piece numbers others
piece_put old new piece numbers others number grown more stands list are = (
  subst (AreNumbersIn new) (sym grown) (All-push (IsNumberIn new) numbers number (still_numbers old new numbers more are.0) stands.0),
  ap (flat_map (sets_in_joins new)) grown
      ∙ (flat_map-append (sets_in_joins new) numbers (number ∷ [])
      ∙ (ap (λ (xs : List ℕ). flat_map (sets_in_joins new) numbers ++ xs) (append-nil (sets_in_joins new number))
      ∙ (ap (λ (xs : List ℕ). xs ++ sets_in_joins new number) (same_sets old new numbers more are.0 ∙ are.1)
      ∙ ap (λ (xs : List ℕ). list ++ xs) stands.1))),
)

-- ---- one piece after another

pub none_before : (j : Joins) (numbers piece : List ℕ) → numbers ≡ [] → piece ≡ [] → AreForBefore j [] numbers piece
none_before j numbers piece none empty = ([], ((subst (AreNumbersIn j) (sym none) (All-nil (IsNumberIn j)), ap (flat_map (sets_in_joins j)) none), empty))

pub one_before : (j : Joins) (list numbers piece longer : List ℕ) (at d : ℕ) → at < length list → longer ≡ piece ++ (get_or list at d ∷ []) → AreForBefore j (take at list) numbers piece → AreForBefore j (take (at + 1) list) numbers longer
one_before j list numbers piece longer at d here grown before = (before.0, (before.1.0, joined))
  where
    joined : before.0 ++ longer ≡ take (at + 1) list
    joined = ap (λ (xs : List ℕ). before.0 ++ xs) grown
        ∙ (sym (append_assoc before.0 piece (get_or list at d ∷ [])) ∙ (ap (λ (xs : List ℕ). xs ++ (get_or list at d ∷ [])) before.1.1 ∙ sym (take_more list at d here)))

pub cut_before : (old new : Joins) (list numbers others piece : List ℕ) → PutsPiece old new piece numbers others → AreForBefore old list numbers piece → AreForBefore new list others []
cut_before old new list numbers others piece puts before = (before.0 ++ piece, (puts before.0 before.1.0, append-nil (before.0 ++ piece) ∙ before.1.1))

pub all_for : (old new : Joins) (list numbers others piece : List ℕ) (at : ℕ) → length list ≤ at → PutsPiece old new piece numbers others → AreForBefore old (take at list) numbers piece → AreFor new list others
all_for old new list numbers others piece at past puts before = subst (λ xs. AreFor new xs others) (before.1.1 ∙ take_all at list past) (puts before.0 before.1.0)

-- ---- a list by numbers

pub one_for : (j : Joins) (list one : List ℕ) (number : ℕ) → one ≡ number ∷ [] → MayStandForList j list (Some number) → AreFor j list one
one_for j list one number is stands = subst (λ xs. AreFor j list xs) (sym is) (one_known j number stands.0, append-nil (sets_in_joins j number) ∙ stands.1)

pub still_for : (a b : Joins) (list numbers : List ℕ) → HasMore a b → AreFor a list numbers → AreFor b list numbers
still_for a b list numbers more are = (still_numbers a b numbers more are.0, same_sets a b numbers more are.0 ∙ are.1)

pub still_pieces : (a b : Joins) (list : List ℕ) (found : Option (Vec ℕ Global)) → HasMore a b → IfSome found (λ some. AreFor a list some.items) → IfSome found (λ some. AreFor b list some.items)
still_pieces a b list None more are = tt
still_pieces a b list (Some numbers) more are = still_for a b list numbers.items more are

pub few_stand : (old new : Joins) (numbers list few : List ℕ) → LeavesOutRepeats (flat_map (sets_in_joins old) numbers) list → AreFor new list few → StandFor old new numbers few
few_stand old new numbers list few thin are known = (are.0, subst (λ xs. LeavesOutRepeats (flat_map (sets_in_joins old) numbers) xs) (sym are.1) thin)

-- ---- what stands at each turn

abbrev pub Stands : Joins → List ℕ → Joins → List ℕ → List ℕ → Type 0
Stands first list j numbers piece = (j.count ≡ first.count) × (HasMore first j × AreForBefore j list numbers piece)

pub stands_as : (first j k : Joins) (list : List ℕ) (ns ms ps qs : Vec ℕ Global) → k ≡ j → ms ≡ ns → qs ≡ ps → Stands first list j ns.items ps.items → Stands first list k ms.items qs.items
stands_as first j k list ns ms ps qs joins numbers piece h =
    subst (λ (j : Joins). Stands first list j ms.items qs.items) (sym joins) (subst (λ (v : Vec ℕ Global). Stands first list j v.items qs.items) (sym numbers) (subst (λ (v : Vec ℕ Global). Stands first list j ns.items v.items) (sym piece) h))
