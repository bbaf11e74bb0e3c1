-- The first word names one command.
use Rattle.command_words.proofs.Names.{only_check, only_price, only_explain, only_audit, only_introspect, only_worst, only_forward, only_meter, only_replay, only_serve, only_exercise, only_migrate}
use Rattle.command_words.proofs.reading.named_command.Goals as goal

pub returns-in-check-clause-usage : goal.returns-in-check-clause-usage
returns-in-check-clause-usage c = λ failed command. only_check c.args.name.now _ command c.in-check.is (c.check.ensures.usage failed command)

pub returns-in-price-clause-usage : goal.returns-in-price-clause-usage
returns-in-price-clause-usage c = λ failed command. only_price c.args.name.now _ command c.in-price.is (c.price.ensures.usage failed command)

pub returns-in-explain-clause-usage : goal.returns-in-explain-clause-usage
returns-in-explain-clause-usage c = λ failed command. only_explain c.args.name.now _ command c.in-explain.is (c.explain.ensures.usage failed command)

pub returns-in-audit-clause-usage : goal.returns-in-audit-clause-usage
returns-in-audit-clause-usage c = λ failed command. only_audit c.args.name.now _ command c.in-audit.is (c.audit.ensures.usage failed command)

pub returns-in-introspect-clause-usage : goal.returns-in-introspect-clause-usage
returns-in-introspect-clause-usage c = λ failed command. only_introspect c.args.name.now _ command c.in-introspect.is (c.introspect.ensures.usage failed command)

pub returns-in-worst-clause-usage : goal.returns-in-worst-clause-usage
returns-in-worst-clause-usage c = λ failed command. only_worst c.args.name.now _ command c.in-worst.is (c.worst.ensures.usage failed command)

pub returns-in-forward-clause-usage : goal.returns-in-forward-clause-usage
returns-in-forward-clause-usage c = λ failed command. only_forward c.args.name.now _ command c.in-forward.is (c.forward.ensures.usage failed command)

pub returns-in-meter-clause-usage : goal.returns-in-meter-clause-usage
returns-in-meter-clause-usage c = λ failed command. only_meter c.args.name.now _ command c.in-meter.is (c.meter.ensures.usage failed command)

pub returns-in-replay-clause-usage : goal.returns-in-replay-clause-usage
returns-in-replay-clause-usage c = λ failed command. only_replay c.args.name.now _ command c.in-replay.is (c.replay.ensures.usage failed command)

pub returns-in-serve-clause-usage : goal.returns-in-serve-clause-usage
returns-in-serve-clause-usage c = λ failed command. only_serve c.args.name.now _ command c.in-serve.is (c.serve.ensures.usage failed command)

pub returns-in-exercise-clause-usage : goal.returns-in-exercise-clause-usage
returns-in-exercise-clause-usage c = λ failed command. only_exercise c.args.name.now _ command c.in-exercise.is (c.exercise.ensures.usage failed command)

pub returns-in-migrate-clause-usage : goal.returns-in-migrate-clause-usage
returns-in-migrate-clause-usage c = λ failed command. only_migrate c.args.name.now _ command c.in-migrate.is (c.migrate.ensures.usage failed command)
