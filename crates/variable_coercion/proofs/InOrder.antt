-- Answers one after another, up to the first that is refused.
use Rattle.std.proofs.Common.{◌≡◌, ◌+◌, ◌<◌, ◌≤◌, ℕ, List, [], ◌∷◌, ◌++◌, length, map, drop, get_or, Option, Some, None, Result, Ok, Err, refl, sym, ap, ◌∙◌, append_assoc, append-nil}
use Rattle.std.proofs.lemmas.List.{drop_all, map-append}
use Rattle.gql_base.proofs.Lists.{at_front}
use Rattle.variable_coercion.specs.Refusals.{Refusal, and_then, all_in_order}
use Rattle.variable_coercion.specs.Calls.{IsTold}

-- what was answered so far, and what is left
abbrev pub with_front : {A : Type 0} → List A → Result (List A) Refusal → Result (List A) Refusal
with_front done (Ok others) = Ok (done ++ others)
with_front done (Err refusal) = Err refusal

one_in_front : {A : Type 0} (done : List A) (x : A) (others : Result (List A) Refusal) → with_front (done ++ x ∷ []) others ≡ with_front done (and_then (Ok x) others)
one_in_front done x (Ok others) = ap Ok (append_assoc done (x ∷ []) others)
one_in_front done x (Err refusal) = refl

module _ {D E V A : Type 0} (answer : D → Result A Refusal) (of : E → D) (view : V → A) where
  -- the answers from a place on
  abbrev pub answers_from : List E → ℕ → Result (List A) Refusal
  answers_from es at = all_in_order answer (map of (drop at es))

  -- `view` shows what was built.
  abbrev pub GoesOn : List V → List E → ℕ → Result (List A) Refusal → Type 0
  GoesOn built es at whole = with_front (map view built) (answers_from es at) ≡ whole

  pub one_more : (es : List E) (at : ℕ) (e : E) (built more : List V) (v : V) (whole : Result (List A) Refusal) → at < length es → e ≡ get_or es at e → answer (of e) ≡ Ok (view v) → more ≡ built ++ v ∷ [] → GoesOn built es at whole → GoesOn more es (at + 1) whole
  one_more es at e built more v whole within is says pushed left =
      ap (λ l. with_front (map view l) (answers_from es (at + 1))) pushed
      ∙ (ap (λ l. with_front l (answers_from es (at + 1))) (map-append view built (v ∷ []))
      ∙ (one_in_front (map view built) (view v) (answers_from es (at + 1))
      ∙ (ap (λ x. with_front (map view built) (and_then x (answers_from es (at + 1)))) (sym says)
      ∙ (ap (λ l. with_front (map view built) (all_in_order answer (map of l))) (sym (at_front es at e within is)) ∙ left))))

  pub all_done : (es : List E) (at : ℕ) (built : List V) (whole : Result (List A) Refusal) → length es ≤ at → GoesOn built es at whole → whole ≡ Ok (map view built)
  all_done es at built whole end left = sym left ∙ (ap (λ l. with_front (map view built) (all_in_order answer (map of l))) (drop_all at es end) ∙ ap Ok (append-nil (map view built)))

  pub first_told : (es : List E) (at : ℕ) (e : E) (built : List V) (told : Option Refusal) (whole : Result (List A) Refusal) → at < length es → e ≡ get_or es at e → IsTold told (answer (of e)) → GoesOn built es at whole → IsTold told whole
  first_told es at e built None whole within is tells left = tt
  first_told es at e built (Some refusal) whole within is tells left =
      sym left ∙ (ap (λ l. with_front (map view built) (all_in_order answer (map of l))) (at_front es at e within is)
      ∙ ap (λ x. with_front (map view built) (and_then x (answers_from es (at + 1)))) tells)
