pub mod KeptCalls
pub mod HeldCalls
pub mod ServedCalls
pub mod ServedEnds
pub mod OpenedJournals
pub mod ServedDoors
