use Rattle.std.proofs.Common.{rules, ◌≡◌, ◌∙◌, subst}
use Rattle.std.specs.Result.{OnOk}
use Rattle.operation_commands.specs.Audit.{AreFoundIn, Adds}
use Rattle.operation_commands.proofs.auditing.find_in_bytes.Goals as goal

pub returns-in_ok-texts-in-Ok-clause-found : goal.returns-in_ok-texts-in-Ok-clause-found
returns-in_ok-texts-in-Ok-clause-found c =
    let is : c.in-Ok.text.now ≡ c.args.bytes.now = search rules in
    subst (λ b. OnOk c.find_in_text.result (Adds (AreFoundIn c.args.of.now.asked.now c.args.texts.now.schema c.args.name.now b) c.args.into.now.items c.find_in_text.new.into.items)) (c.in_ok-texts-in-Ok.ensures ∙ is) c.find_in_text.ensures.found
