mod EndLemmas
mod InputsLemmas
mod KnownLemmas
mod ListLemmas
pub mod OneEndLemmas
mod ReadLemmas
mod ShelfLemmas
