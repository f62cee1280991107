pub mod CutLemmas
pub mod LexLemmas
