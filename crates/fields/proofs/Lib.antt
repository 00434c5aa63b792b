pub mod Bodies
pub mod Closing
pub mod Shapes
