-- Other fields are compared with the call at a place, one after another, while calls are put behind it.
use Rattle.std.proofs.Common.{◌≡◌, ◌<◌, ◌+◌, ◌||◌, ℕ, zero, suc, Bool, true, false, List, [], ◌∷◌, ◌++◌, length, get_or, drop, map, Option, Some, None, Result, Ok, Err, refl, sym, ap, ◌∙◌, subst, arith, length-append, append_assoc}
use Rattle.std.specs.Prelude.{IfSome}
use Rattle.std.specs.List.{slice_get}
use Rattle.std.proofs.lemmas.List.{drop_more}
use Rattle.schema_rules.specs.First.{or_else}
use Rattle.variable_coercion.specs.declared.faults.ArgFault.{ArgFault}
use Rattle.variable_coercion.specs.Refusals.{Refusal}
use Rattle.variable_coercion.specs.Calls.{argument_told}
use Rattle.plan_model.specs.SelectedFields.{Setting}
use Rattle.collected_fields.specs.declared.collected.Collected.{Collected}
use Rattle.collected_fields.specs.Views.{collected_field}
use Rattle.merged_selections.specs.declared.call.Call.{Call}
use Rattle.merged_selections.specs.NodeTests.{IsThere, IsThereWith, args_in, Compares, Grows, refused_in, first_refused, differs_from, differ_from}
use Rattle.merged_selections.proofs.KeptCalls.{still_there}

-- ---- the call at the place

is_there : (calls : List Call) (at : ℕ) → at < length calls → IsThereWith (λ call. Unit {0}) (slice_get calls at)
is_there [] at within = absurd (omega arith)
is_there (c ∷ calls) zero within = tt
is_there (c ∷ calls) (suc at) within = is_there calls at (omega arith)

still_at : (calls now : List Call) (at : ℕ) → at < length calls → Grows calls now → slice_get now at ≡ slice_get calls at
still_at calls now at within grows = ap (λ (cs : List Call). slice_get cs at) grows.1 ∙ still_there (λ call. Unit {0}) calls grows.0 at (is_there calls at within)

pub still_within : (calls now : List Call) (at : ℕ) → at < length calls → Grows calls now → at < length now
still_within calls now at within grows = let long : length now ≡ length calls + length grows.0 = ap length grows.1 ∙ length-append calls grows.0 in omega arith

pub grows_more : (calls now then_ : List Call) → Grows calls now → Grows now then_ → Grows calls then_
grows_more calls now then_ first second = (first.0 ++ second.0, second.1 ∙ (ap (λ (cs : List Call). cs ++ second.0) first.1 ∙ append_assoc calls first.0 second.0))

with_both : (P Q R : Call → Type 0) (found : Option Call) → ((call : Call) → P call → Q call → R call) → IfSome found P → IfSome found Q → IfSome found R
with_both P Q R None both p q = tt
with_both P Q R (Some call) both p q = both call p q

-- ---- one field more

or_more : (a b c : Bool) → ((a || b) || c) ≡ (a || (b || c))
or_more true b c = refl
or_more false b c = refl

module _ (e : Setting) (field : ℕ) (others : List Collected) (i : ℕ) (other : Collected) (within : i < length others) (is : other ≡ get_or others i other) where
  abbrev refused_from : List Collected → Option Refusal
  refused_from fields = first_refused e field (map collected_field fields)

  abbrev differ_behind : Call → List Collected → Bool
  differ_behind call fields = differ_from e field (args_in e call) (map collected_field fields)

  -- what is compared so far, and what is left
  abbrev IsComparedTo : Bool → ℕ → Call → Type 0
  IsComparedTo differ j call = (refused_from (drop j others) ≡ refused_from others) × ((differ || differ_behind call (drop j others)) ≡ differ_behind call others)

  from_here : drop i others ≡ other ∷ drop (i + 1) others
  from_here = drop_more others i other within ∙ ap (λ (x : Collected). x ∷ drop (i + 1) others) (sym is)

  -- of the one that comes next, where some differ already
  abbrev IsNext : Bool → Result Bool ArgFault → Call → Type 0
  IsNext differ result call = Compares result (refused_in e field (collected_field other)) (differ || differs_from e field (args_in e call) (collected_field other))

  one_more : (call : Call) (differ more : Bool) → IsNext differ (Ok more) call → IsComparedTo differ i call → IsComparedTo more (i + 1) call
  one_more call differ more step so_far = (
    sym (ap refused_from from_here ∙ ap (λ (o : Option Refusal). or_else o (refused_from (drop (i + 1) others))) step.0) ∙ so_far.0,
    ap (λ (b : Bool). b || differ_behind call (drop (i + 1) others)) step.1
        ∙ (or_more differ (differs_from e field (args_in e call) (collected_field other)) (differ_behind call (drop (i + 1) others))
        ∙ (ap (λ (b : Bool). differ || b) (sym (ap (differ_behind call) from_here)) ∙ so_far.1)),
  )

  told_first : (told : Option Refusal) → IsThere told (refused_in e field (collected_field other)) → refused_from (drop i others) ≡ refused_from others → IsThere told (refused_from others)
  told_first None h so_far = tt
  told_first (Some refusal) h so_far = sym so_far ∙ (ap refused_from from_here ∙ ap (λ (o : Option Refusal). or_else o (refused_from (drop (i + 1) others))) h)

  module _ (calls now : List Call) (at : ℕ) (there : at < length calls) (grows : Grows calls now) (differ : Bool) (so_far : IfSome (slice_get calls at) (IsComparedTo differ i)) where
    still_next : (result : Result Bool ArgFault) → IfSome (slice_get now at) (IsNext differ result) → IfSome (slice_get calls at) (IsNext differ result)
    still_next result step = subst (λ (o : Option Call). IfSome o (IsNext differ result)) (still_at calls now at there grows) step

    pub goes_on : (more : Bool) → IfSome (slice_get now at) (IsNext differ (Ok more)) → IfSome (slice_get calls at) (IsComparedTo more (i + 1))
    goes_on more step = with_both (IsNext differ (Ok more)) (IsComparedTo differ i) (IsComparedTo more (i + 1)) (slice_get calls at) (λ call. one_more call differ more) (still_next (Ok more) step) so_far

    pub ends : (fault : ArgFault) → IfSome (slice_get now at) (IsNext differ (Err fault)) → IfSome (slice_get calls at) (λ call. Compares (Err fault) (refused_from others) (differ_behind call others))
    ends fault step = with_both (IsNext differ (Err fault)) (IsComparedTo differ i) (λ call. Compares (Err fault) (refused_from others) (differ_behind call others)) (slice_get calls at)
        (λ call h compared. told_first (argument_told fault) h compared.0) (still_next (Err fault) step) so_far
