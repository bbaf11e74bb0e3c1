pub mod Splitting
pub mod Fronts
pub mod OneAnswer
pub mod Either
pub mod OneFault
pub mod Digits
mod OneLines
mod PassedLines
