pub mod Items
pub mod Orders
pub mod Conclusions
pub mod Runs
pub mod Verdicts
pub mod Texts
pub mod Known
pub mod ItemSameLemmas
