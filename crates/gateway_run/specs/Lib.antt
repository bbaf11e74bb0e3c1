pub mod Texts
pub mod Endings
pub mod ServeFiles
pub mod Serve
pub mod DueResponses
pub mod Program
