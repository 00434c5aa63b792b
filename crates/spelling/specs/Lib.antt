pub mod Refusals
pub mod Answers
pub mod Picks
pub mod Tours
