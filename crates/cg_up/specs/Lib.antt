pub mod Arranged
pub mod Curve
pub mod Element
pub mod Pass
pub mod Weighable
