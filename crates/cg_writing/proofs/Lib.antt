pub mod WorkedCases
pub mod YearLemmas
pub mod NumberLemmas
pub mod TokenLemmas
pub mod GrammarLemmas
pub mod TextLemmas
pub mod LawLemmas
