pub mod Hex
pub mod Outcomes
pub mod Cases
