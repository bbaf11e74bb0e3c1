-- Words of the crates below, passed on to those above, which so need no entry for the crates where these are at home.
pub use Rattle.acceptance.specs.PassedOn.{IsWithin}
pub use Rattle.acceptance.specs.AskAlike.{AskAlike}
pub use Rattle.acceptance.specs.Bounds.{IsAccepted, IsAffordable, IsBoundFor}
pub use Rattle.acceptance.specs.Forwarding.{IsFreeIn, IsGivenAsRead, sent_body}
pub use Rattle.acceptance.specs.Refusals.{IsRefusedFor, IsUnread}
pub use Rattle.acceptance.specs.Requests.{IsCheckFor, Prepared, RequestData, plan_tree, request_data, setting}
pub use Rattle.acceptance.specs.Texts.{refusal_text, lexical_text, naming, placed}
pub use Rattle.acceptance.specs.declared.fault.AcceptFault.{AcceptFault}
pub use Rattle.acceptance.specs.declared.fault.AcceptFault.TheVariants.{Memory, Refused}
pub use Rattle.acceptance.specs.declared.fault.Refusal.{Refusal}
pub use Rattle.acceptance.specs.declared.fault.Refusal.TheVariants.{Bound, Document, Pick, Plan, Rule, Variable}
