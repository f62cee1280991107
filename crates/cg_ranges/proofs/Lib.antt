pub mod RangeCases
pub mod RunLemmas
pub mod OrderLemmas
pub mod SumLemmas
pub mod CoverLemmas
pub mod EndLemmas
pub mod MarkLemmas
