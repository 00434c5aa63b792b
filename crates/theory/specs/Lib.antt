pub mod Members
pub mod Steps
pub mod Came
pub mod Theorems
pub mod Calls
pub mod Verdicts
