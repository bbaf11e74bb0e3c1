mod Statuses
mod WordEnds
mod Services
mod ReadFiles
mod ServeRefusals
mod ServedRules
