pub mod Edit
pub mod Versions
pub mod Journal
pub mod Command
pub mod Cause
pub mod Pieces
pub mod Course
pub mod Interleaving
