pub mod Adjoins
pub mod Drafts
pub mod Grammars
pub mod Holds
pub mod Read
pub mod Tables
pub mod Whole
