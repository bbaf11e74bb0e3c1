use Rattle.command_outcomes.proofs.MisusedDirectives.{misused}
use Rattle.command_outcomes.proofs.checked.weighed_in.Goals as goal

pub returns-in-Err-build-clause-refused : goal.returns-in-Err-build-clause-refused
returns-in-Err-build-clause-refused c = misused c.args.text.now c.in-Ok.schema c.in-Err-build.fault c.directive_fault.result c.in-Ok.ensures.held c.in-Err-build.ensures c.directive_fault.ensures
