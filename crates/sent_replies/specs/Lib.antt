-- The JSON of a response, what a schema keeps of its interfaces, and where the name of an object's type is asked for.
pub mod Saying
pub mod Interfaces
pub mod Asking
