-- Words of the crates below, passed on to those above, which so need no entry for the crates where these are at home.
pub use Rattle.command_outcomes.specs.Check.{CheckCameTo, CheckOf, HoldsWith}
pub use Rattle.command_outcomes.specs.Outcomes.{FilesTold, IsAudited, IsDone, IsFaultyAs, IsRefusedAs, IsStopped, IsWanting, NoFileFailed, files_told}
pub use Rattle.command_outcomes.specs.Reading.{HasNoText, HoldsText, IsNoText, IsText}
pub use Rattle.command_outcomes.specs.Texts.{file_text, line}
pub use Rattle.command_outcomes.specs.declared.limits.TheConstants.{CLIENTS_LIMIT, DOCUMENT_LIMIT, SCHEMA_LIMIT, SCRIPT_LIMIT, TRUSTED_LIMIT, VARIABLES_LIMIT}
pub use Rattle.command_outcomes.specs.declared.outcome.Outcome.{Outcome}
pub use Rattle.command_outcomes.specs.declared.outcome.Outcome.TheVariants.{Audited, Done, Faulty, FileFailed, Memory, NotStarted, Refused, Served, Usage}
pub use Rattle.command_outcomes.specs.Statuses.{DISK_FAILED, DONE, DOOR_FAILED, FILE_FAILED, NOT_RESPONSE, NO_MEMORY, REFUSED, SIZE_BROKEN, STREAM_FAILED, USAGE}
