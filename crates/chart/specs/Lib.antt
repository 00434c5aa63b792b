pub mod Drawn
pub mod Lasts
pub mod Early
pub mod Works
pub mod Refusals
pub mod Charts
