-- A text is one script, or has one fault.
use Rattle.std.proofs.Common.{◌≡◌, ◌⊎◌, inl, inr, ℕ, ◌<◌, List, [], ◌∷◌, ◌++◌, length, Bool, refl, sym, ap, ◌∙◌, subst, arith}
use Rattle.std.proofs.lemmas.List.{length-append}
use Rattle.replay_scripts.specs.Limits.{line_limit}
use Rattle.replay_scripts.specs.declared.fault.ScriptFault.{ScriptFault}
use Rattle.replay_scripts.specs.declared.fault.ScriptFault.TheVariants.{BadLine, RepeatedId, UnknownId, Memory}
use Rattle.replay_scripts.specs.Steps.{StepData, IsStepLine}
use Rattle.replay_scripts.specs.Scripts.{AreStepLines, has_begun, begun_after, MayCome, AreScriptLines}
use Rattle.replay_scripts.specs.Faults.{IsAtFault, HaveFault, BeginsAgain, EndsUnknown, IsStepBehind, IsNoStepBehind}
use Rattle.replay_scripts.proofs.StepLines.{one_step}
use Rattle.replay_scripts.proofs.ScriptLines.{same_steps, cut_script, not_again, not_unknown, not_both}

-- a line that is a step which may come is at no fault
not_at_fault : (begun : List ℕ → Bool) (count : ℕ) (line : List ℕ) (step : StepData) (fault : ScriptFault) → count < line_limit → IsStepLine line step → MayCome begun step → IsAtFault begun count line fault → ⊥
not_at_fault begun count line step (BadLine number) few is may wrong = elim wrong.1 [ inl full ↦ absurd (omega (arith, few, full)) | inr never ↦ never step is ]
not_at_fault begun count line step (RepeatedId number) few is may wrong = not_again begun step may (subst (BeginsAgain begun) (one_step line wrong.1.0 step wrong.1.1.spelled is) wrong.1.2)
not_at_fault begun count line step (UnknownId number) few is may wrong = not_unknown begun step may (subst (EndsUnknown begun) (one_step line wrong.1.0 step wrong.1.1.spelled is) wrong.1.2)
not_at_fault begun count line step Memory few is may wrong = wrong

-- the lines of a script have no fault
pub no_fault : (lines : List (List ℕ)) (steps : List StepData) (fault : ScriptFault) → AreScriptLines lines steps → HaveFault lines fault → ⊥
no_fault lines steps fault script f =
    let cut = cut_script f.before f.line f.after steps [] (subst (λ l. AreStepLines l steps) f.cut script.spelled) script.ordered in
    let same = same_steps f.before cut.steps f.steps cut.spelled f.script.spelled in
    let size = ap length f.cut in
    let few = script.few in
    let short : length f.before < line_limit = omega (arith, size, few, length-append f.before (f.line ∷ f.after)) in
    not_at_fault (has_begun (begun_after [] f.steps)) (length f.before) f.line cut.step fault short cut.is_step (subst (λ l. MayCome (has_begun (begun_after [] l)) cut.step) same cut.may) f.wrong

-- ---- two cuts of the same lines

abbrev head_or : List ℕ → List (List ℕ) → List ℕ
head_or line [] = line
head_or line (first ∷ lines) = first

abbrev tail : List (List ℕ) → List (List ℕ)
tail [] = []
tail (first ∷ lines) = lines

abbrev Cuts : (before other : List (List ℕ)) (line next : List ℕ) → Type 0
Cuts before other line next = ((before ≡ other) × (line ≡ next)) ⊎ (((more : List (List ℕ)) × (other ≡ before ++ (line ∷ more))) ⊎ ((more : List (List ℕ)) × (before ≡ other ++ (next ∷ more))))

cuts_behind : (first head : List ℕ) (before other : List (List ℕ)) (line next : List ℕ) → first ≡ head → Cuts before other line next → Cuts (first ∷ before) (head ∷ other) line next
cuts_behind first head before other line next same cuts = elim cuts [
  | inl e ↦ inl (λ i. same i ∷ e.0 i, e.1)
  | inr r ↦ elim r [
    | inl m ↦ inr (inl (m.0, λ i. sym same i ∷ m.1 i))
    | inr m ↦ inr (inr (m.0, λ i. same i ∷ m.1 i))
  ]
]

two_cuts : (before other : List (List ℕ)) (line next : List ℕ) (after left : List (List ℕ)) → before ++ (line ∷ after) ≡ other ++ (next ∷ left) → Cuts before other line next
two_cuts [] [] line next after left same = inl (refl, ap (head_or line) same)
two_cuts [] (head ∷ other) line next after left same = inr (inl (other, λ i. sym (ap (head_or line) same) i ∷ other))
two_cuts (first ∷ before) [] line next after left same = inr (inr (before, λ i. ap (head_or first) same i ∷ before))
two_cuts (first ∷ before) (head ∷ other) line next after left same = cuts_behind first head before other line next (ap (head_or first) same) (two_cuts before other line next after left (ap tail same))

-- ---- one line has one fault

not_step : (count : ℕ) (line : List ℕ) (step : StepData) → IsNoStepBehind count line → IsStepBehind count line step → ⊥
not_step count line step none is = elim none [ inl full ↦ absurd (let few = is.few in omega (arith, few, full)) | inr never ↦ never step is.spelled ]

again_unknown : (begun : List ℕ → Bool) (line : List ℕ) (step other : StepData) → IsStepLine line step → IsStepLine line other → BeginsAgain begun step → EndsUnknown begun other → ⊥
again_unknown begun line step other one two again unknown = not_both begun other (subst (BeginsAgain begun) (one_step line step other one two) again) unknown

one_wrong : (begun : List ℕ → Bool) (count : ℕ) (line : List ℕ) (a b : ScriptFault) → IsAtFault begun count line a → IsAtFault begun count line b → a ≡ b
one_wrong begun count line (BadLine m) (BadLine n) one two = ap (λ number. BadLine number) (one.0 ∙ sym two.0)
one_wrong begun count line (BadLine m) (RepeatedId n) one two = absurd (not_step count line two.1.0 one.1 two.1.1)
one_wrong begun count line (BadLine m) (UnknownId n) one two = absurd (not_step count line two.1.0 one.1 two.1.1)
one_wrong begun count line (RepeatedId m) (BadLine n) one two = absurd (not_step count line one.1.0 two.1 one.1.1)
one_wrong begun count line (RepeatedId m) (RepeatedId n) one two = ap (λ number. RepeatedId number) (one.0 ∙ sym two.0)
one_wrong begun count line (RepeatedId m) (UnknownId n) one two = absurd (again_unknown begun line one.1.0 two.1.0 one.1.1.spelled two.1.1.spelled one.1.2 two.1.2)
one_wrong begun count line (UnknownId m) (BadLine n) one two = absurd (not_step count line one.1.0 two.1 one.1.1)
one_wrong begun count line (UnknownId m) (RepeatedId n) one two = absurd (again_unknown begun line two.1.0 one.1.0 two.1.1.spelled one.1.1.spelled two.1.2 one.1.2)
one_wrong begun count line (UnknownId m) (UnknownId n) one two = ap (λ number. UnknownId number) (one.0 ∙ sym two.0)
one_wrong begun count line (BadLine m) Memory one two = absurd two
one_wrong begun count line (RepeatedId m) Memory one two = absurd two
one_wrong begun count line (UnknownId m) Memory one two = absurd two
one_wrong begun count line Memory b one two = absurd one

-- ---- and so have lines

fault_inside : (lines : List (List ℕ)) (a : ScriptFault) (f : HaveFault lines a) (longer more : List (List ℕ)) (steps : List StepData) → longer ≡ f.before ++ (f.line ∷ more) → AreScriptLines longer steps → ⊥
fault_inside lines a f longer more steps cut script =
    no_fault longer steps a script (record { before = f.before; line = f.line; after = more; steps = f.steps; cut = cut; script = f.script; wrong = f.wrong })

wrong_there : (lines : List (List ℕ)) (a : ScriptFault) (f : HaveFault lines a) (before : List (List ℕ)) (line : List ℕ) (steps : List StepData) → f.before ≡ before → f.line ≡ line → AreStepLines before steps → IsAtFault (has_begun (begun_after [] steps)) (length before) line a
wrong_there lines a f before line steps same next spelled =
    let all = same_steps before f.steps steps (subst (λ l. AreStepLines l f.steps) same f.script.spelled) spelled in
    let one = subst (λ s. IsAtFault (has_begun (begun_after [] s)) (length f.before) f.line a) all f.wrong in
    let two = subst (λ l. IsAtFault (has_begun (begun_after [] steps)) (length l) f.line a) same one in
    subst (λ l. IsAtFault (has_begun (begun_after [] steps)) (length before) l a) next two

pub one_fault : (lines : List (List ℕ)) (a b : ScriptFault) → HaveFault lines a → HaveFault lines b → a ≡ b
one_fault lines a b f g = elim (two_cuts f.before g.before f.line g.line f.after g.after (sym f.cut ∙ g.cut)) [
  | inl e ↦ one_wrong (has_begun (begun_after [] g.steps)) (length g.before) g.line a b (wrong_there lines a f g.before g.line g.steps e.0 e.1 g.script.spelled) g.wrong
  | inr r ↦ elim r [
    | inl m ↦ absurd (fault_inside lines a f g.before m.0 g.steps m.1 g.script)
    | inr m ↦ absurd (fault_inside lines b g f.before m.0 f.steps m.1 f.script)
  ]
]
