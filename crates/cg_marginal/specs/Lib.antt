pub mod Finished
pub mod Marginal
pub mod Pairs
