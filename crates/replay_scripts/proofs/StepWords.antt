-- What stands behind the first word of a line.
use Rattle.std.proofs.Common.{◌≡◌, ℕ, List, [], ◌∷◌, None, Some, true, false, true≢false, arith, refl, sym, ap, ◌∙◌, codes}
use Rattle.std.specs.Fmt.{decimal}
use Rattle.std.proofs.lemmas.Option.{same_Some}
use Rattle.client_files.specs.ClientLines.{is_key}
use Rattle.replay_scripts.specs.Steps.{ReturnedData, reply, down, failed, StepData, begins, ends, spaced, is_id, IsStep, returned_word}
use Rattle.replay_scripts.specs.Words.{first_word, IsMoment, IsSpelled, IsBodiless}
use Rattle.replay_scripts.proofs.Words.{only_word, found_word, id_word, key_word, moment_word}

-- the words of what begins a request
record IsBeginText (text : List ℕ) : Type 0 where
  id : List ℕ
  key : List ℕ
  moment : ℕ
  body : List ℕ
  behind_id : List ℕ
  behind_key : List ℕ
  id_first : first_word text ≡ Some (id, behind_id)
  key_next : first_word behind_id ≡ Some (key, behind_key)
  moment_next : first_word behind_key ≡ Some (decimal moment, body)
  formed : IsStep (begins id key moment body)

begin_text : (text : List ℕ) (step : StepData) → IsSpelled (codes "begin") text step → IsBeginText text
begin_text text (begins id key moment body) s = record {
  id = id;
  key = key;
  moment = moment;
  body = body;
  behind_id = spaced key (spaced (decimal moment) body);
  behind_key = spaced (decimal moment) body;
  id_first = ap first_word s.text_is ∙ only_word id _ (id_word id s.formed.0);
  key_next = only_word key _ (key_word key s.formed.1);
  moment_next = only_word (decimal moment) body (moment_word moment s.formed.2);
  formed = s.formed;
}
begin_text text (ends id (reply body)) s = absurd (let w = s.word_is in cc w)
begin_text text (ends id down) s = absurd (let w = s.word_is in cc w)
begin_text text (ends id failed) s = absurd (let w = s.word_is in cc w)

-- two first words of one text are the same
same_cut : (text word rest other left : List ℕ) → first_word text ≡ Some (word, rest) → first_word text ≡ Some (other, left) → (word ≡ other) × (rest ≡ left)
same_cut text word rest other left one two = let e = same_Some _ _ (sym one ∙ two) in (ap (λ cut. cut.0) e, ap (λ cut. cut.1) e)

pub begin_no_id : (text : List ℕ) (step : StepData) → first_word text ≡ None → IsSpelled (codes "begin") text step → ⊥
begin_no_id text step none s = let b = begin_text text step s in cc (sym none ∙ b.id_first)

pub begin_no_key : (text id rest : List ℕ) (step : StepData) → first_word text ≡ Some (id, rest) → first_word rest ≡ None → IsSpelled (codes "begin") text step → ⊥
begin_no_key text id rest step one none s =
    let b = begin_text text step s in
    let same = same_cut text id rest b.id b.behind_id one b.id_first in
    cc (sym none ∙ ap first_word same.1 ∙ b.key_next)

-- what the words must be
record Needs (id key digits : List ℕ) : Type 0 where
  moment : ℕ
  is_moment : IsMoment digits moment
  id_formed : is_id id ≡ true
  key_formed : is_key key ≡ true

pub begin_no_moment : (text id rest key more : List ℕ) (step : StepData) → first_word text ≡ Some (id, rest) → first_word rest ≡ Some (key, more) → first_word more ≡ None → IsSpelled (codes "begin") text step → ⊥
begin_no_moment text id rest key more step one two none s =
    let b = begin_text text step s in
    let same = same_cut text id rest b.id b.behind_id one b.id_first in
    let next = same_cut rest key more b.key b.behind_key two (ap first_word same.1 ∙ b.key_next) in
    cc (sym none ∙ ap first_word next.1 ∙ b.moment_next)

needs : (text id rest key more digits body : List ℕ) (step : StepData) → first_word text ≡ Some (id, rest) → first_word rest ≡ Some (key, more) → first_word more ≡ Some (digits, body) → IsSpelled (codes "begin") text step → Needs id key digits
needs text id rest key more digits body step one two three s =
    let b = begin_text text step s in
    let same = same_cut text id rest b.id b.behind_id one b.id_first in
    let next = same_cut rest key more b.key b.behind_key two (ap first_word same.1 ∙ b.key_next) in
    let last = same_cut more digits body (decimal b.moment) b.body three (ap first_word next.1 ∙ b.moment_next) in
    record { moment = b.moment; is_moment = (last.0, b.formed.2); id_formed = ap is_id same.0 ∙ b.formed.0; key_formed = ap is_key next.0 ∙ b.formed.1 }

module _ (text id rest key more digits body : List ℕ) (step : StepData) (one : first_word text ≡ Some (id, rest)) (two : first_word rest ≡ Some (key, more)) (three : first_word more ≡ Some (digits, body)) (s : IsSpelled (codes "begin") text step) where
  pub begin_bad_moment : ((moment : ℕ) → IsMoment digits moment → ⊥) → ⊥
  begin_bad_moment none = let n = needs text id rest key more digits body step one two three s in none n.moment n.is_moment

  pub begin_bad_id : is_id id ≡ false → ⊥
  begin_bad_id bad = let n = needs text id rest key more digits body step one two three s in true≢false (sym n.id_formed ∙ bad)

  pub begin_bad_key : is_key key ≡ false → ⊥
  begin_bad_key bad = let n = needs text id rest key more digits body step one two three s in true≢false (sym n.key_formed ∙ bad)

-- and where they are so, the step is spelled
pub begin_spelled : (text id rest key more digits body : List ℕ) (moment : ℕ) → first_word text ≡ Some (id, rest) → first_word rest ≡ Some (key, more) → first_word more ≡ Some (digits, body)
    → IsMoment digits moment → is_id id ≡ true → is_key key ≡ true → IsSpelled (codes "begin") text (begins id key moment body)
begin_spelled text id rest key more digits body moment one two three is i k = record {
  word_is = refl;
  text_is = found_word text id rest one ∙ ap (spaced id) (found_word rest key more two ∙ ap (spaced key) (found_word more digits body three ∙ ap (λ l. spaced l body) is.0));
  formed = (i, k, is.1);
}

-- ---- what ends a request with a reply

record IsEndText (text : List ℕ) : Type 0 where
  id : List ℕ
  body : List ℕ
  id_first : first_word text ≡ Some (id, body)
  formed : is_id id ≡ true

end_text : (text : List ℕ) (step : StepData) → IsSpelled (codes "end") text step → IsEndText text
end_text text (begins id key moment body) s = absurd (let w = s.word_is in cc w)
end_text text (ends id (reply body)) s = record { id = id; body = body; id_first = ap first_word s.text_is ∙ only_word id body (id_word id s.formed); formed = s.formed }
end_text text (ends id down) s = absurd (let w = s.word_is in cc w)
end_text text (ends id failed) s = absurd (let w = s.word_is in cc w)

pub end_no_id : (text : List ℕ) (step : StepData) → first_word text ≡ None → IsSpelled (codes "end") text step → ⊥
end_no_id text step none s = let e = end_text text step s in cc (sym none ∙ e.id_first)

pub end_bad_id : (text id body : List ℕ) (step : StepData) → first_word text ≡ Some (id, body) → is_id id ≡ false → IsSpelled (codes "end") text step → ⊥
end_bad_id text id body step one bad s =
    let e = end_text text step s in
    let same = same_cut text id body e.id e.body one e.id_first in
    true≢false (sym (ap is_id same.0 ∙ e.formed) ∙ bad)

pub end_spelled : (text id body : List ℕ) → first_word text ≡ Some (id, body) → is_id id ≡ true → IsSpelled (codes "end") text (ends id (reply body))
end_spelled text id body one i = record { word_is = refl; text_is = found_word text id body one; formed = i }

-- ---- what ends a request without one

abbrev first : List ℕ → ℕ
first [] = 0
first (byte ∷ bytes) = byte

pub lone_spelled : (id : List ℕ) (returned : ReturnedData) → IsBodiless returned → is_id id ≡ true → IsSpelled (returned_word returned) id (ends id returned)
lone_spelled id (reply body) none i = absurd none
lone_spelled id down none i = record { word_is = refl; text_is = refl; formed = i }
lone_spelled id failed none i = record { word_is = refl; text_is = refl; formed = i }

pub lone_bad : (id : List ℕ) (returned : ReturnedData) (step : StepData) → IsBodiless returned → is_id id ≡ false → IsSpelled (returned_word returned) id step → ⊥
lone_bad id (reply body) step none bad s = absurd none
lone_bad id down (begins other key moment body) none bad s = absurd (let e : 100 ≡ 98 = ap first s.word_is in omega (arith, e))
lone_bad id down (ends other (reply body)) none bad s = absurd (let e : 100 ≡ 101 = ap first s.word_is in omega (arith, e))
lone_bad id down (ends other down) none bad s = true≢false (sym (ap is_id s.text_is ∙ s.formed) ∙ bad)
lone_bad id down (ends other failed) none bad s = absurd (let e : 100 ≡ 102 = ap first s.word_is in omega (arith, e))
lone_bad id failed (begins other key moment body) none bad s = absurd (let e : 102 ≡ 98 = ap first s.word_is in omega (arith, e))
lone_bad id failed (ends other (reply body)) none bad s = absurd (let e : 102 ≡ 101 = ap first s.word_is in omega (arith, e))
lone_bad id failed (ends other down) none bad s = absurd (let e : 102 ≡ 100 = ap first s.word_is in omega (arith, e))
lone_bad id failed (ends other failed) none bad s = true≢false (sym (ap is_id s.text_is ∙ s.formed) ∙ bad)
