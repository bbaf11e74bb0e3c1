use Rattle.std.proofs.Common.{◌∙◌, ap, map}
use Rattle.gql_base.specs.names.Names.{are_distinct}
use Rattle.literal_loads.proofs.SeenInputs.{own_name, once_placed}
use Rattle.literal_loads.proofs.inputs.are_once.Goals as goal

pub returns : goal.returns
returns c = c.are_distinct.ensures ∙ (ap (λ l. are_distinct (map own_name l)) c.in_ok-index_of.ensures ∙ once_placed c.args.placed.now)
