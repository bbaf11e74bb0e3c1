-- A text is a script, or has a fault.
use Rattle.std.proofs.Common.{◌≡◌, ◌⊎◌, inl, inr, ℕ, ◌<◌, ◌≤◌, ◌+◌, ◌^◌, zero, suc, List, [], ◌∷◌, ◌++◌, length, Bool, true≢false, Option, None, Some, refl, sym, ◌∙◌, subst, arith, append_assoc, codes}
use Rattle.std.specs.Prelude.{bytes_eq}
use Rattle.std.specs.Fmt.{decimal}
use Rattle.std.proofs.lemmas.Bool.{cases_Bool, cases_lt}
use Rattle.std.proofs.lemmas.List.{append-nil}
use Rattle.std.proofs.lemmas.Slice.Eq.{bytes_eq-Decides}
use Rattle.client_files.specs.ClientLines.{is_key}
use Rattle.replay_scripts.specs.Limits.{line_limit}
use Rattle.replay_scripts.specs.declared.fault.ScriptFault.{ScriptFault}
use Rattle.replay_scripts.specs.declared.fault.ScriptFault.TheVariants.{BadLine, RepeatedId, UnknownId}
use Rattle.replay_scripts.specs.Lines.{lines_of}
use Rattle.replay_scripts.specs.Steps.{reply, down, failed, StepData, begins, ends, is_id, IsStepLine}
use Rattle.replay_scripts.specs.Words.{first_word, IsMoment, IsSpelled}
use Rattle.replay_scripts.specs.Scripts.{has_begun, begun_after, MayCome, AreScriptLines, IsScript}
use Rattle.replay_scripts.specs.Faults.{IsAtFault, HaveFault, HasFault, IsStepBehind, BeginsAgain, EndsUnknown}
use Rattle.replay_scripts.proofs.StepWords.{begin_no_id, begin_no_key, begin_no_moment, begin_bad_moment, begin_bad_id, begin_bad_key, begin_spelled, end_no_id, end_bad_id, end_spelled, lone_spelled, lone_bad}
use Rattle.replay_scripts.proofs.StepLines.{spells_line, line_spells, line_has_word}
use Rattle.replay_scripts.proofs.ScriptLines.{script_more}

-- there is one, or there is none
abbrev OneOrNone : {A : Type 0} → (A → Type 0) → Type 0
OneOrNone {A} P = ((x : A) × P x) ⊎ ((x : A) → P x → ⊥)

same_or_not : (xs ys : List ℕ) → (xs ≡ ys) ⊎ (xs ≡ ys → ⊥)
same_or_not xs ys = elim (cases_Bool (bytes_eq xs ys)) [ inl equal ↦ inl ((bytes_eq-Decides xs ys).0 equal) | inr apart ↦ inr (λ same. true≢false (sym ((bytes_eq-Decides xs ys).1 same) ∙ apart)) ]

-- ---- moments

-- a text is one of the first moments, or none of them
moment_below : (limit : ℕ) (text : List ℕ) → OneOrNone (λ moment. (text ≡ decimal moment) × (moment < limit))
moment_below zero text = inr (λ moment is. absurd (omega (arith, is.1)))
moment_below (suc limit) text = elim (same_or_not text (decimal limit)) [
  | inl same ↦ inl (limit, (same, omega arith))
  | inr other ↦ elim (moment_below limit text) [
    | inl found ↦ inl (found.0, (found.1.0, omega (arith, found.1.1)))
    | inr none ↦ inr (λ moment is. last moment is.0 other none (cases_lt moment limit) is.1)
  ]
]
  where
    last : (moment : ℕ) → text ≡ decimal moment → (text ≡ decimal limit → ⊥) → ((m : ℕ) → (text ≡ decimal m) × (m < limit) → ⊥) → (moment < limit) ⊎ (limit ≤ moment) → moment < suc limit → ⊥
    last moment is other none (inl below) most = none moment (is, below)
    last moment is other none (inr above) most = let same : moment ≡ limit = omega (arith, above, most) in other (subst (λ m. text ≡ decimal m) same is)

one_moment : (text : List ℕ) → OneOrNone (IsMoment text)
one_moment text = moment_below (2 ^ 64) text

-- ---- steps

begin_formed : (text id rest key more digits body : List ℕ) → first_word text ≡ Some (id, rest) → first_word rest ≡ Some (key, more) → first_word more ≡ Some (digits, body) → OneOrNone (IsSpelled (codes "begin") text)
begin_formed text id rest key more digits body one two three = elim (one_moment digits) [
  | inr none ↦ inr (λ step s. begin_bad_moment text id rest key more digits body step one two three s none)
  | inl found ↦ elim (cases_Bool (is_id id)) [
    | inr bad ↦ inr (λ step s. begin_bad_id text id rest key more digits body step one two three s bad)
    | inl is ↦ elim (cases_Bool (is_key key)) [
      | inr bad ↦ inr (λ step s. begin_bad_key text id rest key more digits body step one two three s bad)
      | inl formed ↦ inl (begins id key found.0 body, begin_spelled text id rest key more digits body found.0 one two three found.1 is formed)
    ]
  ]
]

-- where a text has words, by the first and the rest
by_word : (P : Type 0) (text : List ℕ) → (first_word text ≡ None → P) → ((word rest : List ℕ) → first_word text ≡ Some (word, rest) → P) → P
by_word P text none some = by_cut (first_word text) refl
  where
    by_cut : (cut : Option (List ℕ × List ℕ)) → first_word text ≡ cut → P
    by_cut None is = none is
    by_cut (Some cut) is = some cut.0 cut.1 is

one_begin : (text : List ℕ) → OneOrNone (IsSpelled (codes "begin") text)
one_begin text =
    by_word (OneOrNone (IsSpelled (codes "begin") text)) text (λ none. inr (λ step s. begin_no_id text step none s)) (λ id rest one.
    by_word (OneOrNone (IsSpelled (codes "begin") text)) rest (λ none. inr (λ step s. begin_no_key text id rest step one none s)) (λ key more two.
    by_word (OneOrNone (IsSpelled (codes "begin") text)) more (λ none. inr (λ step s. begin_no_moment text id rest key more step one two none s)) (λ digits body three.
    begin_formed text id rest key more digits body one two three)))

one_end : (text : List ℕ) → OneOrNone (IsSpelled (codes "end") text)
one_end text =
    by_word (OneOrNone (IsSpelled (codes "end") text)) text (λ none. inr (λ step s. end_no_id text step none s)) (λ id body one.
    elim (cases_Bool (is_id id)) [
      | inl is ↦ inl (ends id (reply body), end_spelled text id body one is)
      | inr bad ↦ inr (λ step s. end_bad_id text id body step one bad s)
    ])

one_down : (text : List ℕ) → OneOrNone (IsSpelled (codes "down") text)
one_down text = elim (cases_Bool (is_id text)) [ inl is ↦ inl (ends text down, lone_spelled text down tt is) | inr bad ↦ inr (λ step s. lone_bad text down step tt bad s) ]

one_failed : (text : List ℕ) → OneOrNone (IsSpelled (codes "fail") text)
one_failed text = elim (cases_Bool (is_id text)) [ inl is ↦ inl (ends text failed, lone_spelled text failed tt is) | inr bad ↦ inr (λ step s. lone_bad text failed step tt bad s) ]

other_word : (word text : List ℕ) (step : StepData) → (word ≡ codes "begin" → ⊥) → (word ≡ codes "end" → ⊥) → (word ≡ codes "down" → ⊥) → (word ≡ codes "fail" → ⊥) → IsSpelled word text step → ⊥
other_word word text (begins id key moment body) a b c d s = a s.word_is
other_word word text (ends id (reply body)) a b c d s = b s.word_is
other_word word text (ends id down) a b c d s = c s.word_is
other_word word text (ends id failed) a b c d s = d s.word_is

one_spelled : (word text : List ℕ) → OneOrNone (IsSpelled word text)
one_spelled word text = elim (same_or_not word (codes "begin")) [
  | inl same ↦ subst (λ w. OneOrNone (IsSpelled w text)) (sym same) (one_begin text)
  | inr a ↦ elim (same_or_not word (codes "end")) [
    | inl same ↦ subst (λ w. OneOrNone (IsSpelled w text)) (sym same) (one_end text)
    | inr b ↦ elim (same_or_not word (codes "down")) [
      | inl same ↦ subst (λ w. OneOrNone (IsSpelled w text)) (sym same) (one_down text)
      | inr c ↦ elim (same_or_not word (codes "fail")) [
        | inl same ↦ subst (λ w. OneOrNone (IsSpelled w text)) (sym same) (one_failed text)
        | inr d ↦ inr (λ step s. other_word word text step a b c d s)
      ]
    ]
  ]
]

-- a line is a step, or none
one_line : (line : List ℕ) → OneOrNone (IsStepLine line)
one_line line =
    by_word (OneOrNone (IsStepLine line)) line (λ none. inr (λ step s. line_has_word line step none s)) (λ word rest is.
    elim (one_spelled word rest) [
      | inl found ↦ inl (found.0, spells_line line word rest found.0 is found.1)
      | inr none ↦ inr (λ step s. none step (line_spells line word rest step is s))
    ])

-- ---- lines

-- a step may come, or not for its id
may_or_not : (begun : List ℕ → Bool) (step : StepData) → MayCome begun step ⊎ (BeginsAgain begun step ⊎ EndsUnknown begun step)
may_or_not begun (begins id key moment body) = elim (cases_Bool (begun id)) [ inl again ↦ inr (inl again) | inr new ↦ inl new ]
may_or_not begun (ends id returned) = elim (cases_Bool (begun id)) [ inl known ↦ inl known | inr unknown ↦ inr (inr unknown) ]

-- a line behind others is a step that may come there, or at fault
next_or_fault : (begun : List ℕ → Bool) (count : ℕ) (line : List ℕ) → count ≤ line_limit → ((step : StepData) × IsStepBehind count line step × MayCome begun step) ⊎ ((fault : ScriptFault) × IsAtFault begun count line fault)
next_or_fault begun count line most = elim (cases_lt count line_limit) [
  | inr full ↦ inr (BadLine (count + 1), (refl, inl (omega (arith, most, full))))
  | inl few ↦ elim (one_line line) [
    | inr none ↦ inr (BadLine (count + 1), (refl, inr none))
    | inl found ↦ elim (may_or_not begun found.0) [
      | inl may ↦ inl (found.0, record { few = few; spelled = found.1 }, may)
      | inr wrong ↦ elim wrong [
        | inl again ↦ inr (RepeatedId (count + 1), (refl, (found.0, record { few = few; spelled = found.1 }, again)))
        | inr unknown ↦ inr (UnknownId (count + 1), (refl, (found.0, record { few = few; spelled = found.1 }, unknown)))
      ]
    ]
  ]
]

-- lines are those of a script, or one of them is at fault
abbrev Either : List (List ℕ) → Type 0
Either lines = ((steps : List StepData) × AreScriptLines lines steps) ⊎ ((fault : ScriptFault) × HaveFault lines fault)

lines_either : (before : List (List ℕ)) (steps : List StepData) (rest : List (List ℕ)) → AreScriptLines before steps → Either (before ++ rest)
lines_either before steps [] script = inl (steps, subst (λ l. AreScriptLines l steps) (sym (append-nil before)) script)
lines_either before steps (line ∷ rest) script =
    elim (next_or_fault (has_begun (begun_after [] steps)) (length before) line (let few = script.few in few)) [
      | inr wrong ↦ inr (wrong.0, record { before = before; line = line; after = rest; steps = steps; cut = refl; script = script; wrong = wrong.1 })
      | inl next ↦ subst Either (append_assoc before (line ∷ []) rest)
          (lines_either (before ++ line ∷ []) (steps ++ next.0 ∷ []) rest (script_more before steps line next.0 script (let few = next.1.few in few) next.1.spelled next.2))
    ]

pub script_or_fault : (text : List ℕ) → ((steps : List StepData) × IsScript text steps) ⊎ ((fault : ScriptFault) × HasFault text fault)
script_or_fault text = lines_either [] [] (lines_of text) (record { spelled = tt; few = omega arith; ordered = tt })
