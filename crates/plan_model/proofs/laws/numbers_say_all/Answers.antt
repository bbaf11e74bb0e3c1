use Rattle.plan_model.proofs.MarkedNodes.{same_visits_marked, same_plan_marked}
use Rattle.plan_model.proofs.laws.numbers_say_all.Goals as goal

pub returns-clause-visited : goal.returns-clause-visited
returns-clause-visited c = λ e items levels p q same. same_visits_marked e e.fragments items levels p q same.marks same.first same.second same.handed

pub returns-clause-planned : goal.returns-clause-planned
returns-clause-planned c = λ e items levels p q same. same_plan_marked e e.fragments items levels p q same.marks same.first same.second same.handed
