pub mod Shelf
pub mod Said
pub mod Reading
pub mod Inputs
