pub mod Cause
pub mod Status
pub mod Texts
pub mod Transcript
