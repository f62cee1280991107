pub mod AdvanceLemmas
pub mod BaseLemmas
pub mod CoverLemmas
pub mod CurveLemmas
pub mod PortLemmas
pub mod SessionLemmas
pub mod StandingLemmas
pub mod StepLemmas
