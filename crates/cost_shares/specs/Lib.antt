-- What each node of a plan adds to the cost of a response, and to the bound.
pub mod Shares
pub mod TableShares
pub mod RowOrder
pub mod Examples
-- In the service of proofs.
pub mod Passing
pub mod Holding
