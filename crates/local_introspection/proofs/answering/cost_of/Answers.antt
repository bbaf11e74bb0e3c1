use Rattle.serde_json.specs.View.{view}
use Rattle.schema_facts.specs.FactsViews.{facts_data}
use Rattle.meta_schema.specs.PassedOn.{asked_nodes}
use Rattle.local_introspection.proofs.Answered.{is_within}
use Rattle.local_introspection.proofs.RequestAnswers.{is_answered, is_stopped}
use Rattle.local_introspection.proofs.answering.cost_of.Goals as goal

pub returns-in-Ok-clause-answered : goal.returns-in-Ok-clause-answered
returns-in-Ok-clause-answered c =
    is_answered (record { fit = c.responses_to_what_is_asked.ensures.fit; costs = c.responses_to_what_is_asked.ensures.costs }) c.a_meta_schema_has_its_form.ensures
    c.args.of.now.facts.now c.args.of.now.document.now.definitions.items c.args.of.now.place (view c.args.of.now.given.now) c.args.checked.now c.args.variables.now
    c.requires.of c.requires.values (c.what_arguments_see.ensures c.args.variables.now) c.requires.planned c.args.nodes.now c.requires.asked c.in-Ok.cost c.in-Ok.ensures

pub returns-in-Err-clause-refused : goal.returns-in-Err-clause-refused
returns-in-Err-clause-refused c =
    is_stopped (record { fit = c.responses_to_what_is_asked.ensures.fit; costs = c.responses_to_what_is_asked.ensures.costs }) c.a_meta_schema_has_its_form.ensures
    c.args.of.now.facts.now c.args.of.now.document.now.definitions.items c.args.of.now.place (view c.args.of.now.given.now) c.args.checked.now c.args.variables.now
    c.requires.of c.requires.values (c.what_arguments_see.ensures c.args.variables.now) c.requires.planned c.args.nodes.now c.requires.asked c.in-Err.stop c.stop_fault.result c.stop_fault.ensures c.in-Err.ensures

pub returns-in-Ok-clause-within : goal.returns-in-Ok-clause-within
returns-in-Ok-clause-within c = is_within (facts_data c.args.of.now.facts.now.known) (asked_nodes c.args.nodes.now) c.in-Ok.cost c.in-Ok.ensures.0
