use Rattle.gateway_cli.proofs.entering.let_wait.Goals as goal

pub returns-in-Some-clause-rest : goal.returns-in-Some-clause-rest
returns-in-Some-clause-rest c =
    let rest = c.let_wait.ensures.rest in
    (rest.0, c.let_wait.ensures.others.1, rest.1, rest.2, rest.3, rest.4)
