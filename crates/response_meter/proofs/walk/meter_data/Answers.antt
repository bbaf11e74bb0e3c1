-- The data of a reply is null, or an object of the root.
use Rattle.std.proofs.Common.{sym, ap, ◌∙◌, string_bytes}
use Rattle.serde_json.specs.View.{view, members_view}
use Rattle.response_meter.specs.Walks.{setting, nodes_in, root_plan}
use Rattle.response_meter.proofs.Left.{tells_same}
use Rattle.response_meter.proofs.Places.{null_told}
use Rattle.response_meter.proofs.Positions.{data_null, data_no_object, data_object}
use Rattle.response_meter.proofs.walk.meter_data.Goals as goal

pub returns-then-is_null : goal.returns-then-is_null
returns-then-is_null c =
    data_null c.args.by.now (string_bytes c.args.into.now) (string_bytes c.meter_null.new.into) c.meter_null.result (root_plan c.args.by.now c.args.types.now) (view c.args.value.now)
    (sym (null_told (view c.args.value.now)) ∙ sym c.is_null.ensures ∙ c.if-is_null.true) c.meter_null.ensures

pub returns-in_default : goal.returns-in_default
returns-in_default c =
    tells_same c.not_response.result _ _
    (data_no_object c.args.by.now c.args.types.now (view c.args.value.now) (sym (null_told (view c.args.value.now)) ∙ sym c.is_null.ensures ∙ c.if-is_null.false) c.in_default.ensures.found)
    c.not_response.ensures

pub returns : goal.returns
returns c =
    data_object c.args.by.now (string_bytes c.args.into.now) (string_bytes c.meter_object.new.into) c.meter_object.result c.args.types.now c.root-root.result (nodes_in c.args.by.now c.deref.result.now)
    (view c.args.value.now) (members_view c.in-Some.members.now.entries) c.root-root.ensures (sym (null_told (view c.args.value.now)) ∙ sym c.is_null.ensures ∙ c.if-is_null.false) c.in-Some.ensures.found
    (ap (nodes_in c.args.by.now) c.deref.ensures.value ∙ c.set.ensures (setting c.args.by.now)) c.meter_object.ensures
