use Rattle.operation_class.specs.Classes.{class_at}
use Rattle.operation_class.proofs.ToldClasses.{one_of_three}
use Rattle.operation_class.proofs.laws.there_are_three_classes.Goals as goal

pub returns : goal.returns
returns c = λ ds place. one_of_three (class_at ds place)
