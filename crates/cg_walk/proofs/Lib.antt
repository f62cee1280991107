pub mod WalkLemmas
pub mod GetsLemmas
pub mod WalkCases
