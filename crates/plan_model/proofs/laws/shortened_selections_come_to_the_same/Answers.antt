use Rattle.plan_model.proofs.ShortenedSets.{same_visits_shortened, same_plan_shortened, shorter_is_acyclic}
use Rattle.plan_model.proofs.laws.shortened_selections_come_to_the_same.Goals as goal

pub returns-clause-visited : goal.returns-clause-visited
returns-clause-visited c = λ e root levels ss ts fs shorter. same_visits_shortened e fs shorter.inside root ss ts shorter.below levels

pub returns-clause-planned : goal.returns-clause-planned
returns-clause-planned c = λ e root levels ss ts fs shorter. same_plan_shortened e fs shorter.inside root ss ts shorter.below levels

pub returns-clause-acyclic : goal.returns-clause-acyclic
returns-clause-acyclic c = λ e root ss ts fs shorter. shorter_is_acyclic e root ss ts fs shorter
