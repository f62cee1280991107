pub mod Pieces
pub mod Course
pub mod Interleaving
pub mod Taken
