pub mod Capped
pub mod Within
pub mod CostText
pub mod DecimalText
pub mod Amount
pub mod Reading
