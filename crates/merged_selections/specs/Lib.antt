-- What the call answers: a plan, or the first fault.
pub mod Faults
pub mod Building
-- The tests of a node.
pub mod NodeParts
pub mod NodeTests
-- Building.
pub mod Outcomes
pub mod Nodes
pub mod Again
pub mod Stages
