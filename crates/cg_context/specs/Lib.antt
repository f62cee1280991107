pub mod Formulas
pub mod Columns
