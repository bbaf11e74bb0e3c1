-- The rows of a plan, the sizes of its lists by their sources, and the table that holds them.
pub mod RowKeys
pub mod Rows
pub mod ListSizes
pub mod Tables
-- Costs by a pass over the rows.
pub mod Totals
-- What responses to the plan of a table cost at most.
pub mod TableBounds
-- Responses in memory, and what is looked up of a row.
pub mod Trees
pub mod Texts
pub mod Looked
