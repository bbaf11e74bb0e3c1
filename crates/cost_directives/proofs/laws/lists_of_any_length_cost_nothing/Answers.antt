use Rattle.cost_directives.proofs.LookedUp.{holds_free_leaves}
use Rattle.cost_directives.proofs.laws.lists_of_any_length_cost_nothing.Goals as goal

pub returns : goal.returns
returns c = holds_free_leaves
