pub mod Migrate
pub mod RuleFiles
pub mod Lists
pub mod Replay
pub mod Exercise
pub mod PassedOn
