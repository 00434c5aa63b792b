pub mod Classes
pub mod Offers
pub mod Law
pub mod Adds
