pub mod Cover
pub mod Order
pub mod Runs
pub mod Ranges
pub mod Laws
