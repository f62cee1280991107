pub mod DigitLemmas
pub mod LabelLemmas
pub mod NumeralLemmas
pub mod ShortestLemmas
pub mod WrittenLemmas
