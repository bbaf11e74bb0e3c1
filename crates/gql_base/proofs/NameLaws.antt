pub mod IndexLaws
pub mod DistinctLaws
pub mod RepeatedLaws
