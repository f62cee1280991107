pub mod ChangeLemmas
pub mod CopyLemmas
pub mod KeptLemmas
pub mod KindLemmas
pub mod NamedLemmas
pub mod PlacedLemmas
pub mod StaysLemmas
