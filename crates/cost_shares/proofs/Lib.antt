pub mod AddedUp
pub mod NodeOrder
pub mod RowShares
pub mod RootShares
pub mod FoundShares
