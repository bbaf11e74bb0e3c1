-- What an object says is told by the possible types below its row.
use Rattle.std.proofs.Common.{map, option_map}
use Rattle.serde_json.specs.View.{members_view}
use Rattle.schema_model.specs.Numbers.{type_number}
use Rattle.plan_table.specs.Tables.{setting_in}
use Rattle.response_meter.proofs.Possible.{seen_possible, told_asked, told_alone}
use Rattle.response_meter.proofs.types.type_told.Goals as goal

pub type_under-requires : goal.type_under-requires
type_under-requires c = seen_possible (setting_in c.args.by.now.of.now) c.args.row.now (map type_number c.in-Objects.possible.now) c.in-Objects.ensures

pub returns-then-row : goal.returns-then-row
returns-then-row c =
    told_asked c.args.by.now c.args.row.now (members_view c.args.members.now.entries) (map type_number c.in-Objects.possible.now) (option_map type_number c.type_under.result) c.in-Objects.ensures c.if-row.true c.type_under.ensures

pub returns-else-row : goal.returns-else-row
returns-else-row c =
    told_alone c.args.by.now c.args.row.now (members_view c.args.members.now.entries) (map type_number c.in-Objects.possible.now) (option_map type_number c.only_type.result) c.in-Objects.ensures c.if-row.false c.only_type.ensures
