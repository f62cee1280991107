pub mod Arranged
pub mod Curve
pub mod Element
pub mod Parts
pub mod Pass
pub mod Placed
pub mod Ticks
pub mod Value
