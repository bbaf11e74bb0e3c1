use Rattle.schema_rules.proofs.Keys.{one_name}
use Rattle.schema_rules.proofs.laws.equal_keys_are_one_name_in_one_scope.Goals as goal

pub returns : goal.returns
returns c = one_name
