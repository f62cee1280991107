mod CoverLemmas
mod DistanceLemmas
mod RootLemmas
mod LikelihoodLemmas
mod ExistenceLemmas
mod MeasuredLemmas
pub mod RowLemmas
