mod Migrations
mod Replays
mod RuleRefusals
pub mod ReplayRefusals
mod OneRules
mod OneReplay
mod ExerciseScripts
mod ExerciseClients
mod Exercises
mod ReplayLines
pub mod ListFiles
