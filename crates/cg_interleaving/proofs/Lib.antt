pub mod KeptLemmas
pub mod WorldLemmas
pub mod ListLemmas
pub mod StepLemmas
pub mod FinishLemmas
pub mod EndLemmas
