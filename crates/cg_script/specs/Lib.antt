pub mod Lines
pub mod Words
pub mod Written
pub mod Says
pub mod Script
pub mod Command
pub mod View
pub mod Stored
