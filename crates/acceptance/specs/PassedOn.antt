-- Words of the crates below, passed on to those above, which so need no entry for the crates where these are at home.
pub use Rattle.static_cost.specs.CostBound.{IsWithin}
pub use Rattle.merged_selections.specs.Building.{answer_for}
pub use Rattle.merged_selections.specs.Faults.{IsFaultAt, IsTold}
unfoldable pub use Rattle.merged_selections.specs.Faults.{path_text}
pub use Rattle.merged_selections.specs.declared.fault.PlanFault.{PlanFault}
pub use Rattle.merged_selections.specs.declared.fault.PlanFault.TheVariants.{Argument, Conflict, Memory, NoPossibleType, Size, TooDeep, TooLarge}
