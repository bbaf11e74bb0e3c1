-- The meaning: the request that a body is, the first fault of one that is none, what calls answer, and the texts of faults.
pub mod Bodies
pub mod Faults
pub mod Answers
pub mod FaultTexts
