pub mod FoundLemmas
pub mod NodeLemmas
pub mod PlaceLemmas
pub mod PushLemmas
pub mod TreeLemmas
