pub mod WidthLemmas
pub mod WholeLemmas
pub mod FinishedLemmas
