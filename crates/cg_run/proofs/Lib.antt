mod CauseLemmas
mod InputsLemmas
mod OutputLemmas
mod RunLemmas
