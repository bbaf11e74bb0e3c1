use Rattle.std.proofs.Common.{subst}
use Rattle.serde_json.specs.View.{view}
use Rattle.local_introspection.specs.LocalRequests.{local_request}
use Rattle.local_introspection.specs.LocalAnswers.{IsAnsweredWith}
use Rattle.local_introspection.specs.Counted.{answer_at}
use Rattle.local_introspection.proofs.answering.count.Goals as goal

pub returns-in-Ok-cost_of-clause-answered : goal.returns-in-Ok-cost_of-clause-answered
returns-in-Ok-cost_of-clause-answered c =
    subst (λ nodes. IsAnsweredWith (local_request c.args.facts.now c.args.document.now.definitions.items c.args.place (view c.args.given.now)) (answer_at c.args.facts.now nodes c.in-Ok-cost_of.cost))
    c.as_slice.ensures.value c.in-Ok-cost_of.ensures.answered
