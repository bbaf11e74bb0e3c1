use Rattle.std.proofs.Common.{◌≡◌}
use Rattle.serde_json.specs.View.{members_view}
use Rattle.variable_coercion.specs.Members.{unknown_member}
use Rattle.variable_coercion.proofs.json.members.unknown_name.Given as goal

abbrev pub invariant-names : goal.invariant-names
invariant-names g l = unknown_member (g.T.InputTypes.forms l.types) (members_view l.name-iterator) l.of.number ≡ unknown_member (g.T.InputTypes.forms l.types) (members_view l.members.entries) l.of.number
