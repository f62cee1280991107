pub mod StateLemmas
pub mod EventLemmas
pub mod PrintLemmas
pub mod PrintCases
