pub mod Adding
pub mod Runs
pub mod Lists
