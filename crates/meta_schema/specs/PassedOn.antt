-- Words of the crates below, passed on to those above, which so need no entry for the crates where these are at home.
pub use Rattle.asked_fields.specs.Arguments.{argument_kept, first_value, is_true_value, place_of_value}
pub use Rattle.asked_fields.specs.Asked.{Asked, AskedBelow, CostsAsAsked, FitsAsAsked, asked_at, asked_operation, field_then, fields_asked, no_field, nodes_in, nothing_below, of_leaf, of_nothing, of_objects, plan_in}
unfoldable pub use Rattle.asked_fields.specs.Asked.{asked}
pub use Rattle.asked_fields.specs.AskedNodes.{AskedNodes, AskedOne, asked_depth, asked_nodes, asked_step, asked_then, nothing_asked}
unfoldable pub use Rattle.asked_fields.specs.AskedNodes.{asked_node}
pub use Rattle.asked_fields.specs.Asking.{asked_for, kept_below, kept_of}
pub use Rattle.asked_fields.specs.declared.asked.Argument.{Argument}
pub use Rattle.asked_fields.specs.declared.asked.AskedNode.{AskedNode}
pub use Rattle.asked_fields.specs.declared.asked.AskedNode.TheFolds.{fold_out-AskedNode}
pub use Rattle.asked_fields.specs.declared.asked.AskedNode.TheViews.{out-AskedNode}
