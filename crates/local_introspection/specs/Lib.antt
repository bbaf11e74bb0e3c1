-- what is asked, and the one answer
pub mod Answers
pub mod MetaNodes
-- what a request comes to
pub mod LocalRequests
pub mod LocalAnswers
pub mod AskedHere
pub mod AskAlike
pub mod LocalTexts
pub mod Counted
-- what serves proofs
pub mod Counting
pub mod Lengths
pub mod Measuring
pub mod Walking
pub mod LocalStages
pub mod PlainTexts
pub mod PassedOn
