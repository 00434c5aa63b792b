pub mod PathFacts
pub mod RowWords
pub mod EdgeLists
