pub mod StepLemmas
pub mod PieceLemmas
pub mod NumberLemmas
pub mod NameLemmas
