pub mod RewrittenFields
pub mod RewrittenKeys
pub mod SameCalls
pub mod Stripping
mod Filling
mod FreeNames
pub mod Sent
