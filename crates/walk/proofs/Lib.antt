pub mod Contents
pub mod Goings
pub mod Sizes
pub mod Guides
