use Rattle.std.proofs.Common.{subst}
use Rattle.std.proofs.lemmas.Result.{on_ok_weaker}
use Rattle.operation_commands.specs.Asked.{IsUnreadIn, IfAskedRefused}
use Rattle.operation_commands.proofs.Verdicts.{unread_found}
use Rattle.operation_commands.proofs.auditing.find_in_text.Goals as goal

pub returns-in_ok-verdict-in-Err-Refused : goal.returns-in_ok-verdict-in-Err-Refused
returns-in_ok-verdict-in-Err-Refused c =
    let refusal = c.in-Err-Refused.refusal in
    let unread = subst (λ f. IfAskedRefused f (IsUnreadIn c.has_floats-floats.result c.as_str.result.now)) c.in-Err-Refused.field-0-is c.in-Err-Refused.ensures.refused in
    record {
      found = on_ok_weaker c.push_whole.result
          (unread_found c.args.of.now c.args.texts.now c.requires.ready c.requires.text c.args.name.now c.in_ok-asked-in-Err-Refused.asked c.in_ok-asked-in-Err-Refused.ensures refusal c.in_ok-verdict-in-Err-Refused.verdict
          c.args.into.now.items c.push_whole.new.into.items (subst (λ may. IsUnreadIn may c.args.texts.now.document refusal) c.has_floats-floats.ensures (subst (λ t. IsUnreadIn c.has_floats-floats.result t refusal) c.as_str.ensures unread)) c.in_ok-verdict-in-Err-Refused.ensures) c.push_whole.ensures;
    }
