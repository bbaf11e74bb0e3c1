use Rattle.std.proofs.Common.{◌+◌, ◌*◌}
use Rattle.gql_base.proofs.parts.types.+types.Given as goal

abbrev pub decreases-type_reference : goal.decreases-type_reference
decreases-type_reference l = 3 * l.levels + 3

abbrev pub decreases-nullable : goal.decreases-nullable
decreases-nullable l = 3 * l.levels + 2

abbrev pub decreases-list_type : goal.decreases-list_type
decreases-list_type l = 3 * l.levels + 1
