use Rattle.std.proofs.Common.{◌∙◌, ap, codes}
use Rattle.std.proofs.lemmas.Result.{IfOk-weaker}
use Rattle.clap.specs.Simple.{with_rule}
use Rattle.command_words.specs.Apps.{place, option, with_list, with_work}
use Rattle.command_words.proofs.builder.replay_command.Goals as goal

pub returns : goal.returns
returns c =
    let one = c.in_ok-command.ensures ∙ ap (λ a. with_rule a (place (codes "schema"))) c.top.ensures in
    let two = c.in_ok-command-2.ensures ∙ ap (λ a. with_rule a (place (codes "clients"))) one in
    let three = c.in_ok-command-3.ensures ∙ ap (λ a. with_rule a (place (codes "script"))) two in
    let four = c.in_ok-command-4.ensures ∙ ap (λ a. with_rule a (option (codes "unsized"))) three in
    let five = c.in_ok-command-5.ensures ∙ ap with_list four in
    IfOk-weaker c.with_work.result _ _ (λ r h. h ∙ ap with_work five) c.with_work.ensures
