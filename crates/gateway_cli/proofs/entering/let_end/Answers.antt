use Rattle.gateway_cli.proofs.entering.let_end.Goals as goal

pub returns-in_ok-from_str-clause-rest : goal.returns-in_ok-from_str-clause-rest
returns-in_ok-from_str-clause-rest c =
    let rest = c.stop_at.ensures.rest in
    (rest.0, c.stop_at.ensures.others.1, rest.1, rest.2, rest.3, rest.4)
