pub mod Tours
pub mod Unwound
pub mod Rows
pub mod Agree
pub mod Items
