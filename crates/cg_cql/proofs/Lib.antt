pub mod NameLemmas
pub mod ReaderLemmas
pub mod LoopLemmas
pub mod CurveLineLemmas
