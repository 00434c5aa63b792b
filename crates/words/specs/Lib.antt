pub mod Refusals
pub mod Meaning
pub mod Paths
pub mod Rows
pub mod Edges
pub mod Lattices
pub mod Windows
pub mod Bounds
