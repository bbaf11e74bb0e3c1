pub mod Views
pub mod Gains
pub mod Inside
