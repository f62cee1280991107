pub mod LineLemmas
pub mod StatusCases
pub mod TextCases
