pub mod Places
pub mod RowCounts
pub mod RowTotals
pub mod TableTrees
pub mod RowOrder
pub mod TreesAgain
pub mod ResponseTrees
pub mod ResponseTexts
