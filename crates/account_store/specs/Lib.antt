pub mod Steps
pub mod Histories
pub mod Fitting
pub mod Numbers
