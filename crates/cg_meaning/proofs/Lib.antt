pub mod Sums
pub mod Marginals
pub mod Pin
pub mod Counts
pub mod WorkedCases
pub mod WorkedPairs
pub mod WorkedWeights
pub mod WorkedHolds
