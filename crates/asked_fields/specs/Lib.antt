-- What is asked.
pub mod Asked
pub mod Arguments
pub mod AskedNodes
-- Finding it.
pub mod Asking
