pub mod Halving
pub mod Reductions
pub mod Horner
pub mod Rounded
pub mod Squarings
pub mod Starting
pub mod Recipes
pub mod WorkedCases
