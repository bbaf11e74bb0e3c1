use Rattle.std.proofs.Common.{◌∙◌, ap, codes}
use Rattle.std.proofs.lemmas.Result.{IfOk-weaker}
use Rattle.clap.specs.Simple.{with_rule}
use Rattle.command_words.specs.Apps.{flag, option}
use Rattle.command_words.proofs.builder.with_telling.Goals as goal

pub returns : goal.returns
returns c =
    let one = c.in_ok-command.ensures in
    let two = c.in_ok-command-2.ensures ∙ ap (λ a. with_rule a (flag (codes "hints"))) one in
    IfOk-weaker c.with_option.result _ _ (λ r h. h ∙ ap (λ a. with_rule a (option (codes "most-answer"))) two) c.with_option.ensures
