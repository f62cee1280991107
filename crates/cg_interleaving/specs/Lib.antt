pub mod Run
pub mod Taking
