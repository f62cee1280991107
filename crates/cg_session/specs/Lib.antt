pub mod Calibration
pub mod Port
pub mod Session
pub mod Standing
pub mod Steps
pub mod Transcript
