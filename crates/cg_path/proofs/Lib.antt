pub mod Triangles
pub mod Calls
pub mod Order
pub mod Times
pub mod Same
pub mod Down
pub mod WorkedCases
