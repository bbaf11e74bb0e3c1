use Rattle.std.proofs.Common.{◌∙◌, ap}
use Rattle.std.proofs.lemmas.Result.{IfOk-weaker}
use Rattle.command_words.specs.Apps.{with_gateway, with_serving, with_lasting, with_list, with_telling, with_work}
use Rattle.command_words.proofs.builder.serve_command.Goals as goal

pub returns : goal.returns
returns c =
    let one = c.in_ok-command.ensures ∙ ap with_gateway c.top.ensures in
    let two = c.in_ok-command-2.ensures ∙ ap with_serving one in
    let three = c.in_ok-command-3.ensures ∙ ap with_lasting two in
    let four = c.in_ok-command-4.ensures ∙ ap with_list three in
    let five = c.in_ok-command-5.ensures ∙ ap with_telling four in
    IfOk-weaker c.with_work.result _ _ (λ r h. h ∙ ap with_work five) c.with_work.ensures
