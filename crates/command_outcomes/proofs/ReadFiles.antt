-- Files that are read one after another.
use Rattle.std.proofs.Common.{◌≡◌, ◌∙◌, inl, inr, ℕ, List, Option, sym, subst}
use Rattle.outside.specs.Faults.{Rose, StayAll, ChangesAlone}
use Rattle.command_outcomes.specs.declared.outcome.Outcome.{Outcome}
use Rattle.command_outcomes.specs.declared.outcome.Outcome.TheVariants.{Done, Refused, FileFailed, Faulty, Audited, Served, NotStarted, Usage, Memory}
use Rattle.command_outcomes.specs.Outcomes.{files_told, IsStopped}
use Rattle.command_outcomes.specs.Reading.{IsRead, HasNoText}

module _ (content later : List ℕ → Option (List ℕ)) (before at after : List ℕ → ℕ) (same : later ≡ content) (still : StayAll before at) where
  stay_sooner : StayAll at after → StayAll before after
  stay_sooner more name = more name ∙ still name

  alone_sooner : (name : List ℕ) → ChangesAlone name at after → ChangesAlone name before after
  alone_sooner name alone other = elim (alone other) [
    | inl same ↦ inl (same ∙ still other)
    | inr shared ↦ inr (sym (still other) ∙ shared.0 ∙ still name, shared.1)
  ]

  pub stopped_sooner : (IsName : List ℕ → Type 0) (outcome : Outcome) → IsStopped IsName (files_told later at after) outcome → IsStopped IsName (files_told content before after) outcome
  stopped_sooner IsName (Done output) stopped = absurd stopped
  stopped_sooner IsName (Refused text) stopped = absurd stopped
  stopped_sooner IsName (FileFailed name) stopped = (stopped.0, subst (λ count. Rose count (after name)) (still name) stopped.1, alone_sooner name stopped.2)
  stopped_sooner IsName (Faulty status text) stopped = absurd stopped
  stopped_sooner IsName (Audited lines passed) stopped = absurd stopped
  stopped_sooner IsName (Served lines failed) stopped = absurd stopped
  stopped_sooner IsName NotStarted stopped = absurd stopped
  stopped_sooner IsName Usage stopped = absurd stopped
  stopped_sooner IsName Memory stopped = stay_sooner stopped

  -- a file that holds no text after another one was read
  pub no_text_sooner : (limit : ℕ) (name : List ℕ) (outcome : Outcome) → HasNoText limit name (files_told later at after) outcome → HasNoText limit name (files_told content before after) outcome
  no_text_sooner limit name outcome (inl stopped) = inl (stopped_sooner (λ other. other ≡ name) outcome stopped)
  no_text_sooner limit name outcome (inr read) = inr (read.0, subst (λ c. IsRead limit (c name) read.0) same read.1, read.2, stay_sooner read.3)
