-- A line spells one step.
use Rattle.std.proofs.Common.{◌≡◌, ℕ, List, [], ◌∷◌, Option, None, Some, refl, sym, ap, ◌∙◌, arith, IfSome}
use Rattle.std.specs.Fmt.{decimal}
use Rattle.std.proofs.lemmas.Fmt.{decimal_injective}
use Rattle.std.proofs.lemmas.Option.{same_Some}
use Rattle.replay_scripts.specs.declared.step.Step.{Step}
use Rattle.replay_scripts.specs.Steps.{step_data, reply, down, failed, StepData, begins, ends, spaced, IsStep, step_word, step_rest, IsStepLine}
use Rattle.replay_scripts.specs.Words.{first_word, IsSpelled}
use Rattle.replay_scripts.proofs.Words.{HasNoSpace, only_word, found_word, same_words, id_word, key_word, moment_word}

pub step_word_is_word : (step : StepData) → HasNoSpace (step_word step)
step_word_is_word (begins id key moment body) = (refl, (refl, (refl, (refl, (refl, tt)))))
step_word_is_word (ends id (reply body)) = (refl, (refl, (refl, tt)))
step_word_is_word (ends id down) = (refl, (refl, (refl, (refl, tt))))
step_word_is_word (ends id failed) = (refl, (refl, (refl, (refl, tt))))

-- a line is spelled by its first word and the rest
pub spells_line : (line word rest : List ℕ) (step : StepData) → first_word line ≡ Some (word, rest) → IsSpelled word rest step → IsStepLine line step
spells_line line word rest step is spelled = record {
  text = found_word line word rest is ∙ (λ i. spaced (spelled.word_is i) (spelled.text_is i));
  formed = spelled.formed;
}

-- so is what was read of the rest
pub spells_some : (line word rest other : List ℕ) (read : Option Step) → first_word line ≡ Some (word, rest) → word ≡ other → IfSome read (λ step. IsSpelled other rest (step_data step)) → IfSome read (λ step. IsStepLine line (step_data step))
spells_some line word rest other (Some step) is same spelled = spells_line line word rest (step_data step) is (record { word_is = same ∙ spelled.word_is; text_is = spelled.text_is; formed = spelled.formed })
spells_some line word rest other None is same spelled = tt

pub line_spells : (line word rest : List ℕ) (step : StepData) → first_word line ≡ Some (word, rest) → IsStepLine line step → IsSpelled word rest step
line_spells line word rest step is spelled =
    let e = same_Some _ _ (sym is ∙ ap first_word spelled.text ∙ only_word (step_word step) (step_rest step) (step_word_is_word step)) in
    record { word_is = ap (λ cut. cut.0) e; text_is = ap (λ cut. cut.1) e; formed = spelled.formed }

pub line_has_word : (line : List ℕ) (step : StepData) → first_word line ≡ None → IsStepLine line step → ⊥
line_has_word line step none spelled = cc (sym none ∙ ap first_word spelled.text ∙ only_word (step_word step) (step_rest step) (step_word_is_word step))

-- the same word and the same rest are of one step
begun_same : (id key other that body text : List ℕ) (moment next : ℕ) → IsStep (begins id key moment body) → IsStep (begins other that next text)
    → step_rest (begins id key moment body) ≡ step_rest (begins other that next text) → begins id key moment body ≡ begins other that next text
begun_same id key other that body text moment next one two same =
    let ids = same_words id other _ _ (id_word id one.0) (id_word other two.0) same in
    let keys = same_words key that _ _ (key_word key one.1) (key_word that two.1) ids.1 in
    let rests = same_words (decimal moment) (decimal next) body text (moment_word moment one.2) (moment_word next two.2) keys.1 in
    let moments = decimal_injective moment next one.2 two.2 rests.0 in
    λ i. begins (ids.0 i) (keys.0 i) (moments i) (rests.1 i)

replied_same : (id other body text : List ℕ) → IsStep (ends id (reply body)) → IsStep (ends other (reply text)) → spaced id body ≡ spaced other text → ends id (reply body) ≡ ends other (reply text)
replied_same id other body text one two same =
    let ids = same_words id other body text (id_word id one) (id_word other two) same in
    λ i. ends (ids.0 i) (reply (ids.1 i))

abbrev first : List ℕ → ℕ
first [] = 0
first (byte ∷ bytes) = byte

pub spelled_same : (a b : StepData) → IsStep a → IsStep b → step_word a ≡ step_word b → step_rest a ≡ step_rest b → a ≡ b
spelled_same (begins id key moment body) (begins other that next text) one two w r = begun_same id key other that body text moment next one two r
spelled_same (begins id key moment body) (ends other (reply text)) one two w r = absurd (cc w)
spelled_same (begins id key moment body) (ends other down) one two w r = absurd (cc w)
spelled_same (begins id key moment body) (ends other failed) one two w r = absurd (cc w)
spelled_same (ends id (reply body)) (begins other that next text) one two w r = absurd (cc w)
spelled_same (ends id down) (begins other that next text) one two w r = absurd (cc w)
spelled_same (ends id failed) (begins other that next text) one two w r = absurd (cc w)
spelled_same (ends id (reply body)) (ends other (reply text)) one two w r = replied_same id other body text one two r
spelled_same (ends id (reply body)) (ends other down) one two w r = absurd (cc w)
spelled_same (ends id (reply body)) (ends other failed) one two w r = absurd (cc w)
spelled_same (ends id down) (ends other (reply text)) one two w r = absurd (cc w)
spelled_same (ends id down) (ends other down) one two w r = ap (λ id. ends id down) r
spelled_same (ends id down) (ends other failed) one two w r = absurd (let e : 100 ≡ 102 = ap first w in omega (arith, e))
spelled_same (ends id failed) (ends other (reply text)) one two w r = absurd (cc w)
spelled_same (ends id failed) (ends other down) one two w r = absurd (let e : 102 ≡ 100 = ap first w in omega (arith, e))
spelled_same (ends id failed) (ends other failed) one two w r = ap (λ id. ends id failed) r

pub one_step : (line : List ℕ) (a b : StepData) → IsStepLine line a → IsStepLine line b → a ≡ b
one_step line a b one two =
    let parts = same_words (step_word a) (step_word b) (step_rest a) (step_rest b) (step_word_is_word a) (step_word_is_word b) (sym one.text ∙ two.text) in
    spelled_same a b one.formed two.formed parts.0 parts.1
