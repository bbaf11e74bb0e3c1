use Rattle.std.proofs.Common.{sym, ◌∙◌}
use Rattle.schema_facts.specs.Things.{one, the_root}
use Rattle.local_introspection.specs.LocalRequests.{nodes_asked}
use Rattle.local_introspection.proofs.OneAnswer.{one_tree, is_given, entries_are_given}
use Rattle.local_introspection.proofs.laws.there_is_one_answer.Goals as goal

pub returns-clause-some : goal.returns-clause-some
returns-clause-some c = λ f nodes. is_given f nodes (entries_are_given f nodes) (one the_root)

pub returns-clause-only : goal.returns-clause-only
returns-clause-only c = λ f nodes t is. one_tree f (one the_root) nodes t is

pub returns-clause-request : goal.returns-clause-request
returns-clause-request c = λ r p t other is too. one_tree r.facts (one the_root) (nodes_asked r p) t is.given ∙ sym (one_tree r.facts (one the_root) (nodes_asked r p) other too.given)
