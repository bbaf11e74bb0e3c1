use Rattle.std.proofs.Common.{◌∙◌, ap, codes}
use Rattle.std.proofs.lemmas.Result.{IfOk-weaker}
use Rattle.clap.specs.Simple.{with_rule}
use Rattle.command_words.specs.Apps.{option, with_work}
use Rattle.command_words.proofs.builder.with_options.Goals as goal

pub returns : goal.returns
returns c =
    let one = c.in_ok-command.ensures in
    let two = c.in_ok-command-2.ensures ∙ ap (λ a. with_rule a (option (codes "operation"))) one in
    let three = c.in_ok-command-3.ensures ∙ ap (λ a. with_rule a (option (codes "unsized"))) two in
    IfOk-weaker c.with_work.result _ _ (λ r h. h ∙ ap with_work three) c.with_work.ensures
