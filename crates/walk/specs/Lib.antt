pub mod Ahead
pub mod Sizes
pub mod Stacks
pub mod Moves
pub mod Guided
