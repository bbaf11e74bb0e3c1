pub mod Receiving
pub mod Sent
pub mod Lines
pub mod Fronts
pub mod Framed
pub mod Answered
pub mod Later
pub mod OneReply
pub mod NoFault
pub mod OneFault
pub mod Either
mod OneHead
mod TrailerLines
