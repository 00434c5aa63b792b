pub mod Derivations
pub mod Walks
pub mod Spans
pub mod Readings
pub mod Known
pub mod Theorems
pub mod Spelling
