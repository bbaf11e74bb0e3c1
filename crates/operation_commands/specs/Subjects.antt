-- What the meaning of these commands speaks of, passed on to whoever stands on them.
pub use Rattle.response_meter.specs.declared.fault.MeterFault.{MeterFault}
pub use Rattle.response_meter.specs.declared.fault.MeterFault.TheVariants.{NotResponse, SizeBroken, Memory as MeterMemory}
pub use Rattle.response_model.specs.declared.part.Part.{Part}
pub use Rattle.plan_table.specs.declared.table.Plan.{Plan}
pub use Rattle.response_model.specs.Plan.{Plan as PlanTree}
pub use Rattle.acceptance.specs.Requests.{plan_tree}
