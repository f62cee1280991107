pub mod Recipe
pub mod Ticks
pub mod Enclosed
pub mod Bounds
pub mod Laws
