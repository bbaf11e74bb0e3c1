pub mod Places
pub mod Pieces
pub mod Literals
pub mod Names
pub mod Fields
pub mod Lists
