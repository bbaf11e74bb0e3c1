use Rattle.operation_commands.proofs.forwarding.sent_of.Goals as goal

pub returns-in-Ok-forwarded_in-clause-sent : goal.returns-in-Ok-forwarded_in-clause-sent
returns-in-Ok-forwarded_in-clause-sent c =
    let accepted = c.in-Ok-accepted.ensures.accepted in (
      c.in-Ok.inputs,
      c.in-Ok.ensures.held,
      (
        c.in-Ok-accepted.accepted.plan,
        c.in-Ok-accepted.accepted.bound,
        accepted,
        (c.in-Ok-forwarded_in.forwarded.alias, c.in-Ok-forwarded_in.ensures.alias, c.in-Ok-forwarded_in.ensures.body accepted.is_planned.prepared),
      ),
    )
