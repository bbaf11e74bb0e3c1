-- How far a script is read.
use Rattle.std.proofs.Common.{◌≡◌, ℕ, ◌<◌, ◌≤◌, List, [], ◌∷◌, ◌++◌, length, append_assoc, true, false, refl, sym, ap, ◌∙◌, subst, arith, Option, map, nat_eq, true≢false}
use Rattle.std.specs.List.{before_first, after_first}
use Rattle.std.proofs.lemmas.Bool.{eqb-true}
use Rattle.std.proofs.lemmas.List.{append-nil, length-map, map-append}
use Rattle.replay_scripts.specs.Limits.{line_limit}
use Rattle.replay_scripts.specs.declared.fault.ScriptFault.{ScriptFault}
use Rattle.replay_scripts.specs.declared.fault.ScriptFault.TheVariants.{BadLine, RepeatedId, UnknownId, Memory}
use Rattle.replay_scripts.specs.declared.step.Step.{Step}
use Rattle.replay_scripts.specs.Answers.{UnlessMemory}
use Rattle.replay_scripts.specs.Lines.{is_line_feed, lines_of}
use Rattle.replay_scripts.specs.Steps.{StepData, step_data}
use Rattle.replay_scripts.specs.Scripts.{has_begun, with_begun, begun_after, MayCome, AreScriptLines, IsScript}
use Rattle.replay_scripts.specs.Faults.{IsAtFault, HasFault}
use Rattle.replay_scripts.specs.Fronts.{stands, Know, Follows, IsFront}
use Rattle.replay_scripts.proofs.Lines.{next_line}
use Rattle.replay_scripts.proofs.ScriptLines.{as_many, script_more, begun_more}

-- nothing is read
pub front_start : (text : List ℕ) (places : List ℕ → Option ℕ) → ((id : List ℕ) → stands places id ≡ false) → IsFront text text [] places
front_start text places none = record {
  before = [];
  cut = refl;
  script = record { spelled = tt; few = omega arith; ordered = tt };
  know = none;
}

-- the line that comes next
front_next : (text rest line more : List ℕ) (before : List (List ℕ)) → lines_of text ≡ before ++ lines_of rest → 0 < length rest → line ≡ before_first is_line_feed rest → more ≡ after_first is_line_feed rest
    → lines_of text ≡ before ++ (line ∷ lines_of more)
front_next text rest line more before cut some first left = cut ∙ ap (λ l. before ++ l) (next_line rest some ∙ (λ i. sym first i ∷ lines_of (sym left i)))

-- a line more is read
pub front_step : (text rest line more : List ℕ) (steps : List StepData) (places after : List ℕ → Option ℕ) (step : StepData) → IsFront text rest steps places → 0 < length rest → line ≡ before_first is_line_feed rest → more ≡ after_first is_line_feed rest
    → Follows (stands places) (length steps) line step → Know after (with_begun step (begun_after [] steps)) → IsFront text more (steps ++ step ∷ []) after
front_step text rest line more steps places after step front some first left follows know =
    let size = as_many front.before steps front.script.spelled in
    let few = follows.behind.few in
    let short : length front.before < line_limit = omega (arith, size, few) in
    let may = subst (λ begun. MayCome begun step) (λ i id. front.know id i) follows.may in
    record {
      before = front.before ++ line ∷ [];
      cut = front_next text rest line more front.before front.cut some first left ∙ sym (append_assoc front.before (line ∷ []) (lines_of more));
      script = script_more front.before steps line step front.script short follows.behind.spelled may;
      know = λ id. know id ∙ ap (λ ids. has_begun ids id) (sym (begun_more steps [] step));
    }

-- all is read
pub front_end : (text rest : List ℕ) (steps : List StepData) (places : List ℕ → Option ℕ) → IsFront text rest steps places → rest ≡ [] → IsScript text steps
unfolding lines_of
front_end text rest steps places front none = subst (λ lines. AreScriptLines lines steps) (sym (front.cut ∙ ap (λ l. front.before ++ lines_of l) none ∙ append-nil front.before)) front.script

-- the line that comes next is at fault
pub front_fault : (text rest line : List ℕ) (steps : List StepData) (places : List ℕ → Option ℕ) (fault : ScriptFault) → IsFront text rest steps places → 0 < length rest → line ≡ before_first is_line_feed rest
    → IsAtFault (stands places) (length steps) line fault → HasFault text fault
front_fault text rest line steps places fault front some first wrong =
    let known = subst (λ begun. IsAtFault begun (length steps) line fault) (λ i id. front.know id i) wrong in
    record {
      before = front.before;
      line = line;
      after = lines_of (after_first is_line_feed rest);
      steps = steps;
      cut = front_next text rest line (after_first is_line_feed rest) front.before front.cut some first refl;
      script = front.script;
      wrong = subst (λ count. IsAtFault (has_begun (begun_after [] steps)) count line fault) (sym (as_many front.before steps front.script.spelled)) known;
    }

-- no more lines are read than there may be
pub front_few : (text rest : List ℕ) (steps : List StepData) (places : List ℕ → Option ℕ) → IsFront text rest steps places → length steps ≤ line_limit
front_few text rest steps places front = let few = front.script.few in omega (arith, few, as_many front.before steps front.script.spelled)

-- ---- as the code has them

-- something is left, or nothing is
pub some_left : (rest : List ℕ) → nat_eq (length rest) 0 ≡ false → 0 < length rest
some_left [] h = absurd (true≢false h)
some_left (byte ∷ bytes) h = omega arith

none_left : (rest : List ℕ) → nat_eq (length rest) 0 ≡ true → rest ≡ []
none_left [] h = refl
none_left (byte ∷ bytes) h = absurd (omega (arith, eqb-true (length (byte ∷ bytes)) 0 h))

pub end_here : (text rest : List ℕ) (steps : List StepData) (places : List ℕ → Option ℕ) → IsFront text rest steps places → nat_eq (length rest) 0 ≡ true → IsScript text steps
end_here text rest steps places front h = front_end text rest steps places front (none_left rest h)

counted : (steps : List Step) (count : ℕ) → count ≡ length steps → count ≡ length (map step_data steps)
counted steps count is = is ∙ sym (length-map steps step_data)

pub few_here : (text rest : List ℕ) (steps : List Step) (places : List ℕ → Option ℕ) (count : ℕ) → IsFront text rest (map step_data steps) places → count ≡ length steps → count ≤ line_limit
few_here text rest steps places count front is = subst (λ n. n ≤ line_limit) (sym (counted steps count is)) (front_few text rest (map step_data steps) places front)

pub fault_here : (text rest line : List ℕ) (steps : List Step) (places : List ℕ → Option ℕ) (count : ℕ) (fault : ScriptFault) → IsFront text rest (map step_data steps) places → nat_eq (length rest) 0 ≡ false
    → line ≡ before_first is_line_feed rest → count ≡ length steps → IsAtFault (stands places) count line fault → HasFault text fault
fault_here text rest line steps places count fault front some first is wrong =
    front_fault text rest line (map step_data steps) places fault front (some_left rest some) first (subst (λ n. IsAtFault (stands places) n line fault) (counted steps count is) wrong)

pub step_here : (text rest line more : List ℕ) (steps after : List Step) (step : Step) (places now : List ℕ → Option ℕ) (count : ℕ) → IsFront text rest (map step_data steps) places → nat_eq (length rest) 0 ≡ false
    → line ≡ before_first is_line_feed rest → more ≡ after_first is_line_feed rest → count ≡ length steps → Follows (stands places) count line (step_data step)
    → ((ids : List (List ℕ)) → Know places ids → Know now (with_begun (step_data step) ids)) → after ≡ steps ++ step ∷ [] → IsFront text more (map step_data after) now
step_here text rest line more steps after step places now count front some first left is follows note added =
    let next = front_step text rest line more (map step_data steps) places now (step_data step) front (some_left rest some) first left (subst (λ n. Follows (stands places) n line (step_data step)) (counted steps count is) follows) (note _ front.know) in
    subst (λ all. IsFront text more all now) (sym (ap (map step_data) added ∙ map-append step_data steps (step ∷ []))) next

pub unless_memory : (P : ScriptFault → Type 0) (fault : ScriptFault) → P fault → UnlessMemory P fault
unless_memory P (BadLine line) h = h
unless_memory P (RepeatedId line) h = h
unless_memory P (UnknownId line) h = h
unless_memory P Memory h = tt
