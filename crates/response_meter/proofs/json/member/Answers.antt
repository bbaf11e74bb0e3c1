-- Looking a key up in the map finds the member of the JSON object.
use Rattle.std.proofs.Common.{option_map, ap, ◌∙◌}
use Rattle.serde_json.specs.View.{view, members_view}
use Rattle.serde_json.proofs.Views.{view_of_ref, view-lookup}
use Rattle.response_meter.proofs.Depths.{member_within}
use Rattle.response_meter.proofs.json.member.Goals as goal

pub returns-clause-found : goal.returns-clause-found
returns-clause-found c = view_of_ref c.get.result ∙ ap (option_map view) c.get.ensures.value ∙ view-lookup c.args.key.now c.args.members.now.entries

pub returns-clause-below : goal.returns-clause-below
returns-clause-below c =
    member_within c.args.key.now (members_view c.args.members.now.entries) c.get.result
    (view_of_ref c.get.result ∙ ap (option_map view) c.get.ensures.value ∙ view-lookup c.args.key.now c.args.members.now.entries)
