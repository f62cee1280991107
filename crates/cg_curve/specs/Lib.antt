pub mod Lines
pub mod Rows
pub mod File
pub mod Reading
pub mod Point
pub mod Curves
