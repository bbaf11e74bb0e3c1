-- The texts that are the same for each number of requests.
pub mod Texts
-- The script of so many requests.
pub mod Script
