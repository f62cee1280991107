pub mod Listing
pub mod Member
pub mod Step
