use Rattle.operation_class.proofs.ToldClasses.{tells_names, told_class}
use Rattle.operation_class.proofs.laws.a_class_tells_the_names_at_the_root.Goals as goal

pub returns-clause-told : goal.returns-clause-told
returns-clause-told c = tells_names

pub returns-clause-only : goal.returns-clause-only
returns-clause-only c = told_class
