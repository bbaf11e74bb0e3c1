-- The keys that are left answer as all.
use Rattle.std.proofs.Common.{◌≡◌}
use Rattle.serde_json.specs.View.{members_view}
use Rattle.response_meter.specs.FirstFault.{keys_known}
use Rattle.response_meter.specs.Walks.{nodes_in}
use Rattle.response_meter.proofs.walk.keys_known.Given as goal

abbrev pub invariant-keys : goal.invariant-keys
invariant-keys l = keys_known l.by.alias.now l.asked (nodes_in l.by l.nodes) (members_view l.key-iterator) ≡ keys_known l.by.alias.now l.asked (nodes_in l.by l.nodes) (members_view l.members.entries)
