pub mod Tables
pub mod Found
pub mod OneFilling
pub mod SomeFilling
