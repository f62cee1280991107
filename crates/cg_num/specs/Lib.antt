pub mod Decimal
pub mod Label
pub mod Memory
pub mod Numeral
pub mod Written
pub mod Year
