-- A field for objects of a type, the fields that selections have, and how they merge.
pub mod SelectedFields
pub mod Collecting
pub mod Merging
-- The plan, responses without a plan, and the first fault.
pub mod Plans
pub mod Responses
pub mod SameArguments
pub mod Visits
pub mod Operations
-- What plans rest on: sound settings, and the walk that enters each fragment once.
pub mod Sound
pub mod Repeats
pub mod MergingWalk
-- What is alike wherever it stands: arguments, fields, selection sets; and selections without what is written alike.
pub mod GivenAlike
pub mod Likeness
pub mod Numberings
pub mod Shortening
-- What the laws say of a place, its selections and their plan.
pub mod PlanLaws
-- Small selections, computed.
pub mod Examples
