-- Scripts that get longer by a line.
use Rattle.std.proofs.Common.{◌≡◌, ℕ, ◌<◌, List, [], ◌∷◌, ◌++◌, length, Bool, refl, arith}
use Rattle.std.proofs.lemmas.List.{length-append}
use Rattle.replay_scripts.specs.Limits.{line_limit}
use Rattle.replay_scripts.specs.Steps.{StepData, begins, ends, IsStepLine}
use Rattle.replay_scripts.specs.Scripts.{AreStepLines, has_begun, with_begun, begun_after, MayCome, AreInOrder, AreScriptLines}
use Rattle.replay_scripts.specs.Faults.{BeginsAgain, EndsUnknown}
use Rattle.replay_scripts.proofs.StepLines.{one_step}

-- as many lines as steps
pub as_many : (lines : List (List ℕ)) (steps : List StepData) → AreStepLines lines steps → length lines ≡ length steps
as_many [] [] spelled = refl
as_many (line ∷ lines) (step ∷ steps) spelled = omega (arith, as_many lines steps spelled.1)
as_many [] (step ∷ steps) spelled = absurd spelled
as_many (line ∷ lines) [] spelled = absurd spelled

-- lines spell one list of steps
pub same_steps : (lines : List (List ℕ)) (a b : List StepData) → AreStepLines lines a → AreStepLines lines b → a ≡ b
same_steps [] [] [] one two = refl
same_steps (line ∷ lines) (a ∷ more) (b ∷ bs) one two = λ i. one_step line a b one.0 two.0 i ∷ same_steps lines more bs one.1 two.1 i
same_steps [] (a ∷ more) b one two = absurd one
same_steps [] [] (b ∷ bs) one two = absurd two
same_steps (line ∷ lines) [] b one two = absurd one
same_steps (line ∷ lines) (a ∷ more) [] one two = absurd two

spelled_more : (lines : List (List ℕ)) (steps : List StepData) (line : List ℕ) (step : StepData) → AreStepLines lines steps → IsStepLine line step → AreStepLines (lines ++ line ∷ []) (steps ++ step ∷ [])
spelled_more [] [] line step spelled is = (is, tt)
spelled_more (l ∷ lines) (s ∷ steps) line step spelled is = (spelled.0, spelled_more lines steps line step spelled.1 is)
spelled_more [] (s ∷ steps) line step spelled is = absurd spelled
spelled_more (l ∷ lines) [] line step spelled is = absurd spelled

ordered_more : (steps : List StepData) (ids : List (List ℕ)) (step : StepData) → AreInOrder ids steps → MayCome (has_begun (begun_after ids steps)) step → AreInOrder ids (steps ++ step ∷ [])
ordered_more [] ids step ordered may = (may, tt)
ordered_more (s ∷ steps) ids step ordered may = (ordered.0, ordered_more steps (with_begun s ids) step ordered.1 may)

-- one more began, or none
pub begun_more : (steps : List StepData) (ids : List (List ℕ)) (step : StepData) → begun_after ids (steps ++ step ∷ []) ≡ with_begun step (begun_after ids steps)
begun_more [] ids step = refl
begun_more (s ∷ steps) ids step = begun_more steps (with_begun s ids) step

-- one more line makes a script of one more step
pub script_more : (lines : List (List ℕ)) (steps : List StepData) (line : List ℕ) (step : StepData) → AreScriptLines lines steps → length lines < line_limit → IsStepLine line step → MayCome (has_begun (begun_after [] steps)) step
    → AreScriptLines (lines ++ line ∷ []) (steps ++ step ∷ [])
script_more lines steps line step script few is may = record {
  spelled = spelled_more lines steps line step script.spelled is;
  few = omega (arith, few, length-append lines (line ∷ []));
  ordered = ordered_more steps [] step script.ordered may;
}

-- a line in the middle of a script: the steps before it, and its own
pub record IsCut (ids : List (List ℕ)) (before : List (List ℕ)) (line : List ℕ) : Type 0 where
  pub steps : List StepData
  pub step : StepData
  pub spelled : AreStepLines before steps
  pub is_step : IsStepLine line step
  pub may : MayCome (has_begun (begun_after ids steps)) step

pub cut_script : (before : List (List ℕ)) (line : List ℕ) (after : List (List ℕ)) (steps : List StepData) (ids : List (List ℕ)) → AreStepLines (before ++ line ∷ after) steps → AreInOrder ids steps → IsCut ids before line
cut_script [] line after [] ids spelled ordered = absurd spelled
cut_script (l ∷ before) line after [] ids spelled ordered = absurd spelled
cut_script [] line after (step ∷ steps) ids spelled ordered = record { steps = []; step = step; spelled = tt; is_step = spelled.0; may = ordered.0 }
cut_script (l ∷ before) line after (step ∷ steps) ids spelled ordered =
    let cut = cut_script before line after steps (with_begun step ids) spelled.1 ordered.1 in
    record { steps = step ∷ cut.steps; step = cut.step; spelled = (spelled.0, cut.spelled); is_step = cut.is_step; may = cut.may }

-- a step that may come is at no fault
pub not_again : (begun : List ℕ → Bool) (step : StepData) → MayCome begun step → BeginsAgain begun step → ⊥
not_again begun (begins id key moment body) may again = cc
not_again begun (ends id returned) may again = again

pub not_unknown : (begun : List ℕ → Bool) (step : StepData) → MayCome begun step → EndsUnknown begun step → ⊥
not_unknown begun (begins id key moment body) may unknown = unknown
not_unknown begun (ends id returned) may unknown = cc

-- a step either begins a request or ends one
pub not_both : (begun : List ℕ → Bool) (step : StepData) → BeginsAgain begun step → EndsUnknown begun step → ⊥
not_both begun (begins id key moment body) again unknown = unknown
not_both begun (ends id returned) again unknown = again
