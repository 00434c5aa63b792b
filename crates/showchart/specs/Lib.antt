pub mod Lines
pub mod Sentences
pub mod Streams
