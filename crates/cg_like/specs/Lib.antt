pub mod Likelihood
pub mod Cover
pub mod Distance
