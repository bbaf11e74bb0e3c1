-- A replay goes on by a turn.
use Rattle.std.proofs.Common.{◌≡◌, ℕ, ◌+◌, ◌<◌, ◌≤◌, List, [], ◌∷◌, ◌++◌, Bool, true, false, refl, sym, ap, ◌∙◌, subst, arith, length, map, take, get_or, append_assoc, append-nil}
use Rattle.std.specs.Prelude.{flat_map}
use Rattle.std.proofs.lemmas.Bool.{false≢true}
use Rattle.std.proofs.lemmas.List.{map_push, length-append, length-map, take_more, flat_map_more}
use Rattle.account_shared.specs.Views.{PassesView}
use Rattle.account_shared.specs.Gains.{ClientCall, Gains}
use Rattle.replay_scripts.specs.Steps.{StepData, step_data}
use Rattle.replay_scripts.specs.declared.step.Step.{Step}
use Rattle.gateway_core.specs.Rules.{Rules}
use Rattle.gateway_replay.specs.declared.replayed.Replayed.{Replayed}
use Rattle.gateway_replay.specs.Turns.{OpenRequest, ComesTo, Turn, step_of, calls_of, opens_past, Runs, opens_after, abandoning}
use Rattle.gateway_replay.specs.Lines.{line_for, id_of, line_of_turn, line_of_abandoned, Reports}
use Rattle.gateway_replay.specs.Replays.{all_calls, Replays, Stops, Called}
use Rattle.gateway_replay.specs.Stretches.{HasRoom, AddsLine, AddsLines, TakesStep, RunsTo}
use Rattle.gateway_replay.proofs.MoreLines.{adds_one, has_room}

-- stretches of calls add up
abbrev pub GainThen : Type 0
GainThen = (p q r : PassesView) (these those : List ClientCall) → Gains p q these → Gains q r those → Gains p r (these ++ those)

opens_push : (turns : List Turn) (opens : List OpenRequest) (turn : Turn) → opens_after opens (turns ++ turn ∷ []) ≡ opens_past (opens_after opens turns) turn
opens_push [] opens turn = refl
opens_push (t ∷ ts) opens turn = opens_push ts (opens_past opens t) turn

runs_push : (turns : List Turn) (rules : Rules) (made : ℕ) (opens : List OpenRequest) (turn : Turn) → Runs rules made opens turns
    → ComesTo rules (made + length (flat_map (calls_of rules) turns)) (opens_after opens turns) turn.step turn.how → Runs rules made opens (turns ++ turn ∷ [])
runs_push [] rules made opens turn run comes = (subst (λ n. ComesTo rules n opens turn.step turn.how) (plus_none made) comes, tt)
  where
    plus_none : (n : ℕ) → n + 0 ≡ n
    plus_none n = omega arith
runs_push (t ∷ ts) rules made opens turn run comes = (
  run.0,
  runs_push ts rules (made + length (calls_of rules t)) (opens_past opens t) turn run.1
      (subst (λ n. ComesTo rules n (opens_after (opens_past opens t) ts) turn.step turn.how) (counted (calls_of rules t) (flat_map (calls_of rules) ts)) comes),
)
  where
    counted : (first rest : List ClientCall) → made + length (first ++ rest) ≡ (made + length first) + length rest
    counted first rest = omega (arith, length-append first rest)

pub runs_none : (rules : Rules) (p : PassesView) (report : Replayed) → Gains p p [] → Reports [] report → RunsTo rules p p [] [] report true
runs_none rules p report none r = record {
  turns = [];
  rest = [];
  steps_are = refl;
  runs = tt;
  opens_are = refl;
  calls = none;
  all_taken = λ h. refl;
  reports = λ h. r;
}

-- while all is told the steps are those of the turns
told_steps : (rules : Rules) (p q : PassesView) (steps : List StepData) (opens : List OpenRequest) (report : Replayed) (told : Bool) → (r : RunsTo rules p q steps opens report told) → told ≡ true → steps ≡ map step_of r.turns
told_steps rules p q steps opens report told r h = r.steps_are ∙ (ap (λ l. map step_of r.turns ++ l) (r.all_taken h) ∙ append-nil (map step_of r.turns))

runs_on : GainThen → (rules : Rules) (p q t : PassesView) (steps : List StepData) (step : StepData) (opens left : List OpenRequest) (old new : Replayed) (still : Bool)
    → RunsTo rules p q steps opens old true → TakesStep rules q opens step old t left new still → RunsTo rules p t (steps ++ step ∷ []) left new still
runs_on then rules p q t steps step opens left old new still so_far more =
    let taken = more.1 in
    let turn : Turn = record { step = step; how = taken.how } in
    record {
      turns = so_far.turns ++ turn ∷ [];
      rest = [];
      steps_are = ap (λ l. l ++ step ∷ []) (told_steps rules p q steps opens old true so_far refl)
          ∙ (sym (map_push step_of so_far.turns turn) ∙ sym (append-nil (map step_of (so_far.turns ++ turn ∷ []))));
      runs = runs_push so_far.turns rules p.made [] turn so_far.runs
          (subst (λ n. ComesTo rules n (opens_after [] so_far.turns) step taken.how) so_far.calls.made
          (subst (λ l. ComesTo rules q.made l step taken.how) so_far.opens_are taken.comes));
      opens_are = taken.left_are ∙ (ap (λ l. opens_past l turn) so_far.opens_are ∙ sym (opens_push so_far.turns [] turn));
      calls = subst (Gains p t) (flat_map_more (calls_of rules) [] so_far.turns turn) (then p q t (flat_map (calls_of rules) so_far.turns) (calls_of rules turn) so_far.calls taken.calls);
      all_taken = λ h. refl;
      reports = λ h. subst (λ l. Reports l new) (sym (map_push line_of_turn so_far.turns turn))
          ((adds_one (line_of_turn turn) old new (subst (λ told. AddsLine (line_for (id_of step) told) old new) taken.told_is (more.2 h))).reports (map line_of_turn so_far.turns) (so_far.reports refl));
    }

-- a step that isn't taken is one more of the rest
runs_no_further : GainThen → (rules : Rules) (p q t : PassesView) (steps : List StepData) (step : StepData) (opens left : List OpenRequest) (old new : Replayed) (told still : Bool)
    → RunsTo rules p q steps opens old told → (still ≡ true → ⊥) → left ≡ opens → Gains q t [] → RunsTo rules p t (steps ++ step ∷ []) left new still
runs_no_further then rules p q t steps step opens left old new told still so_far untold kept none = record {
  turns = so_far.turns;
  rest = so_far.rest ++ step ∷ [];
  steps_are = ap (λ l. l ++ step ∷ []) so_far.steps_are ∙ append_assoc (map step_of so_far.turns) so_far.rest (step ∷ []);
  runs = so_far.runs;
  opens_are = kept ∙ so_far.opens_are;
  calls = subst (Gains p t) (append-nil (flat_map (calls_of rules) so_far.turns)) (then p q t (flat_map (calls_of rules) so_far.turns) [] so_far.calls none);
  all_taken = λ h. absurd (untold h);
  reports = λ h. absurd (untold h);
}

runs_more : GainThen → (rules : Rules) (p q t : PassesView) (steps : List StepData) (step : StepData) (opens left : List OpenRequest) (old new : Replayed) (told still : Bool)
    → RunsTo rules p q steps opens old told → (still ≡ true → told ≡ true) → (told ≡ true → TakesStep rules q opens step old t left new still)
    → (told ≡ false → left ≡ opens) → (told ≡ false → Gains q t []) → RunsTo rules p t (steps ++ step ∷ []) left new still
runs_more then rules p q t steps step opens left old new true still so_far told_then taken kept none = runs_on then rules p q t steps step opens left old new still so_far (taken refl)
runs_more then rules p q t steps step opens left old new false still so_far told_then taken kept none =
    runs_no_further then rules p q t steps step opens left old new false still so_far (λ h. false≢true (told_then h)) (kept refl) (none refl)

-- through one step more of a list
pub runs_next : GainThen → (rules : Rules) (p q t : PassesView) (steps script : List Step) (index : ℕ) (d : Step) (opens left : List OpenRequest) (old new : Replayed) (told still : Bool) → steps ≡ script → index < length steps
    → RunsTo rules p q (map step_data (take index script)) opens old told → (still ≡ true → told ≡ true) → (told ≡ true → TakesStep rules q opens (step_data (get_or steps index d)) old t left new still)
    → (told ≡ false → left ≡ opens) → (told ≡ false → Gains q t []) → RunsTo rules p t (map step_data (take (index + 1) script)) left new still
runs_next then rules p q t steps script index d opens left old new told still same low so_far told_then taken kept none =
    subst (λ l. RunsTo rules p t l left new still) (sym one_more)
    (runs_more then rules p q t (map step_data (take index script)) (step_data (get_or steps index d)) opens left old new told still so_far told_then taken kept none)
  where
    one_more : map step_data (take (index + 1) script) ≡ map step_data (take index script) ++ step_data (get_or steps index d) ∷ []
    one_more = ap (λ l. map step_data (take (index + 1) l)) (sym same) ∙ (ap (map step_data) (take_more steps index d low)
        ∙ (map_push step_data (take index steps) (get_or steps index d) ∙ ap (λ l. map step_data (take index l) ++ step_data (get_or steps index d) ∷ []) same))

-- a report of few steps has room for more
pub room_so_far : (rules : Rules) (p q : PassesView) (steps : List StepData) (opens : List OpenRequest) (report : Replayed) (told : Bool) → RunsTo rules p q steps opens report told → length steps ≤ 10000 → told ≡ true → HasRoom report
room_so_far rules p q steps opens report told r few h =
    has_room (map line_of_turn r.turns) report (r.reports h) (omega (arith, few, ap length (told_steps rules p q steps opens report told r h), length-map r.turns step_of, length-map r.turns line_of_turn))

pub called_then : GainThen → (p q t : PassesView) → Called p q → Called q t → Called p t
called_then then p q t a b = (a.0 ++ b.0, then p q t a.0 b.0 a.1 b.1)

-- once what is open is settled, these are all calls
calls_in_all : GainThen → (rules : Rules) (p q t : PassesView) (steps : List StepData) (opens : List OpenRequest) (report : Replayed) (told : Bool) → (r : RunsTo rules p q steps opens report told) → Gains q t (map abandoning opens)
    → Gains p t (all_calls rules r.turns)
calls_in_all then rules p q t steps opens report told r calls =
    subst (λ l. Gains p t (flat_map (calls_of rules) r.turns ++ map abandoning l)) r.opens_are (then p q t (flat_map (calls_of rules) r.turns) (map abandoning opens) r.calls calls)

pub replayed : GainThen → (rules : Rules) (p q t : PassesView) (script : List StepData) (opens : List OpenRequest) (old new : Replayed) (told : Bool) → RunsTo rules p q script opens old told → told ≡ true → old.steps ≡ length script
    → AddsLines (map line_of_abandoned opens) old new → Gains q t (map abandoning opens) → Replays rules p script new t
replayed then rules p q t script opens old new told r h steps adds calls = record {
  turns = r.turns;
  is_report = record {
    steps_are = sym (told_steps rules p q script opens old told r h);
    runs = r.runs;
    reports = subst (λ l. Reports (map line_of_turn r.turns ++ map line_of_abandoned l) new) r.opens_are (adds.reports (map line_of_turn r.turns) (r.reports h));
    steps = adds.steps ∙ steps;
  };
  calls = calls_in_all then rules p q t script opens old told r calls;
}

pub stopped : GainThen → (rules : Rules) (p q t : PassesView) (script : List StepData) (opens : List OpenRequest) (report : Replayed) (told : Bool) → RunsTo rules p q script opens report told → Gains q t (map abandoning opens)
    → Stops rules p script t
stopped then rules p q t script opens report told r calls = record {
  turns = r.turns;
  rest = r.rest;
  steps_are = r.steps_are;
  runs = r.runs;
  calls = calls_in_all then rules p q t script opens report told r calls;
}
