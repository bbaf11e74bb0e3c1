-- The files of an operation, and of a reply, that are read after others.
use Rattle.std.proofs.Common.{◌≡◌, ◌∙◌, inl, inr, ℕ, List, Option, None, Some, subst}
use Rattle.outside.specs.Faults.{StayAll}
use Rattle.command_outcomes.specs.declared.outcome.Outcome.{Outcome}
use Rattle.command_outcomes.specs.declared.limits.TheConstants.{VARIABLES_LIMIT, REPLY_LIMIT}
use Rattle.command_outcomes.specs.Outcomes.{files_told}
use Rattle.command_outcomes.specs.Reading.{IsRead}
use Rattle.command_outcomes.proofs.ReadFiles.{stopped_sooner, no_text_sooner}
use Rattle.operation_commands.specs.Asked.{HasNoVariables}
use Rattle.operation_commands.specs.Meter.{IsReply, HasNoReply}

-- counts that stayed, and stayed again
pub stayed_then : (before at after : List ℕ → ℕ) → StayAll before at → StayAll at after → StayAll before after
stayed_then before at after first second name = second name ∙ first name

module _ (content later : List ℕ → Option (List ℕ)) (before at after : List ℕ → ℕ) (same : later ≡ content) (still : StayAll before at) where
  pub no_variables_sooner : (name : Option (List ℕ)) (outcome : Outcome) → HasNoVariables name (files_told later at after) outcome → HasNoVariables name (files_told content before after) outcome
  no_variables_sooner None outcome none = none
  no_variables_sooner (Some name) outcome none = no_text_sooner content later before at after same still VARIABLES_LIMIT name outcome none

  pub no_reply_sooner : (name : List ℕ) (outcome : Outcome) → HasNoReply name (files_told later at after) outcome → HasNoReply name (files_told content before after) outcome
  no_reply_sooner name outcome (inl stopped) = inl (stopped_sooner content later before at after same still (λ other. other ≡ name) outcome stopped)
  no_reply_sooner name outcome (inr large) =
      inr (large.0, subst (λ c. IsRead REPLY_LIMIT (c name) large.0) same large.1, large.2, large.3, stayed_then before at after still large.4)

-- a reply that was read after another file
pub reply_sooner : (content later : List ℕ → Option (List ℕ)) → later ≡ content → (name bytes : List ℕ) → IsReply (later name) bytes → IsReply (content name) bytes
reply_sooner content later same name bytes held = subst (λ c. IsReply (c name) bytes) same held
