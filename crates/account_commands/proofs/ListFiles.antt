-- Lists of trusted documents that are read after other files.
use Rattle.std.proofs.Common.{◌≡◌, ℕ, List, Option, None, Some}
use Rattle.outside.specs.Faults.{StayAll}
use Rattle.command_words.specs.declared.command.AskedList.{AskedList}
use Rattle.command_outcomes.specs.declared.outcome.Outcome.{Outcome}
use Rattle.command_outcomes.specs.declared.limits.TheConstants.{TRUSTED_LIMIT}
use Rattle.command_outcomes.specs.Outcomes.{files_told}
use Rattle.command_outcomes.proofs.ReadFiles.{no_text_sooner}
use Rattle.account_commands.specs.Lists.{HasNoListText}

pub no_list_sooner : (content later : List ℕ → Option (List ℕ)) (before at after : List ℕ → ℕ) → later ≡ content → StayAll before at → (asked : Option AskedList) (outcome : Outcome)
    → HasNoListText asked (files_told later at after) outcome → HasNoListText asked (files_told content before after) outcome
no_list_sooner content later before at after same still None outcome none = none
no_list_sooner content later before at after same still (Some asked) outcome none = no_text_sooner content later before at after same still TRUSTED_LIMIT asked.file outcome none
