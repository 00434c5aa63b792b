pub mod Additions
pub mod Constraints
pub mod Listings
pub mod Lists
pub mod Questions
