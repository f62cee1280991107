pub mod FilesInLemmas
pub mod ReaderLemmas
pub mod ShelfLemmas
pub mod SinkLemmas
