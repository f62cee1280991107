pub mod Elements
pub mod Part
pub mod Tables
pub mod Laws
