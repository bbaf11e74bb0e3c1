-- Words of the crates below, passed on to those above, which so need no entry for the crates where these are at home.
pub use Rattle.plan_table.specs.TableBounds.{IsCostBound, IsWithinCap, holds_in}
pub use Rattle.plan_table.specs.Tables.{HasRows}
pub use Rattle.plan_table.specs.declared.table.Plan.{Plan}
