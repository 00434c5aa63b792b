pub mod Counts
pub mod Dots
pub mod Runs
pub mod Skips
pub mod Listed
pub mod Fixed
pub mod Works
pub mod Lives
