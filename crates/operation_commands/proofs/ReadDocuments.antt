-- The files of documents, read one after another.
use Rattle.std.proofs.Common.{◌≡◌, ◌∙◌, ℕ, ◌+◌, ◌<◌, ◌≤◌, suc, List, [], ◌∷◌, ◌++◌, length, drop, get_or, Option, sym, ap, subst, arith, drop-cons}
use Rattle.std.proofs.lemmas.List.{append_assoc, append-nil, drop_all}
use Rattle.command_outcomes.specs.declared.limits.TheConstants.{DOCUMENT_LIMIT}
use Rattle.command_outcomes.specs.Reading.{IsRead}
use Rattle.command_outcomes.specs.declared.outcome.Outcome.{Outcome}
use Rattle.command_outcomes.specs.declared.outcome.Outcome.TheVariants.{Done, Refused, FileFailed, Faulty, Audited, Served, NotStarted, Usage, Memory}
use Rattle.command_outcomes.specs.Outcomes.{FilesTold, IsStopped}
use Rattle.operation_commands.specs.Audit.{AreRead, AddsRead}

module _ (content : List ℕ → Option (List ℕ)) (names : List (List ℕ)) where
  pub next_read : (later : List ℕ → Option (List ℕ)) (at : ℕ) (name : List ℕ) (before after : List (List ℕ)) → later ≡ content → at < length names → name ≡ get_or names at name → AddsRead (later name) before after
      → ((rest : List (List ℕ)) → AreRead content (drop at names) rest → AreRead content names (before ++ rest)) → (rest : List (List ℕ)) → AreRead content (drop (at + 1) names) rest → AreRead content names (after ++ rest)
  next_read later at name before after same within is adds held rest more =
      let next : at + 1 ≡ suc at = omega arith in
      let front : drop at names ≡ name ∷ drop (suc at) names = drop-cons names at name within ∙ ap (λ n. n ∷ drop (suc at) names) (sym is) in
      let here : AreRead content (drop at names) (adds.0 ∷ rest) =
      subst (λ ns. AreRead content ns (adds.0 ∷ rest)) (sym front) (subst (λ c. IsRead DOCUMENT_LIMIT (c name) adds.0) same adds.1, subst (λ k. AreRead content (drop k names) rest) next more) in
      subst (AreRead content names) (sym (ap (λ bs. bs ++ rest) adds.2 ∙ append_assoc before (adds.0 ∷ []) rest)) (held (adds.0 ∷ rest) here)

  pub all_read : (at : ℕ) (read : List (List ℕ)) → length names ≤ at → ((rest : List (List ℕ)) → AreRead content (drop at names) rest → AreRead content names (read ++ rest)) → AreRead content names read
  all_read at read past held = subst (AreRead content names) (append-nil read) (held [] (subst (λ ns. AreRead content ns []) (sym (drop_all at names past)) tt))

pub stopped_wider : (IsName IsOther : List ℕ → Type 0) (files : FilesTold) (outcome : Outcome) → ((name : List ℕ) → IsName name → IsOther name) → IsStopped IsName files outcome → IsStopped IsOther files outcome
stopped_wider IsName IsOther files (Done output) wider stopped = absurd stopped
stopped_wider IsName IsOther files (Refused text) wider stopped = absurd stopped
stopped_wider IsName IsOther files (FileFailed name) wider stopped = (wider name stopped.0, stopped.1, stopped.2)
stopped_wider IsName IsOther files (Faulty status text) wider stopped = absurd stopped
stopped_wider IsName IsOther files (Audited lines passed) wider stopped = absurd stopped
stopped_wider IsName IsOther files (Served lines failed) wider stopped = absurd stopped
stopped_wider IsName IsOther files NotStarted wider stopped = absurd stopped
stopped_wider IsName IsOther files Usage wider stopped = absurd stopped
stopped_wider IsName IsOther files Memory wider stopped = stopped
