pub mod Sums
pub mod Losses
pub mod Row
pub mod Table
pub mod Formulas
pub mod Live
pub mod Exact
