-- The meaning: the rules of a gate, what bodies come to, grants and their bounds, how a request begins and finishes, and
-- messages.
pub mod Rules
pub mod Gates
pub mod Fresh
pub mod Requests
pub mod PlanBounds
pub mod Grants
pub mod Reservations
pub mod Numbers
pub mod Begins
pub mod Losses
pub mod Messages
pub mod Finishes
pub mod Measures
-- What serves proofs: what a body was found to ask for, and that facts are propositions, and what shared
-- cells keep.
pub mod Examined
pub mod Propositions
pub mod Cells
pub mod PassedOn
