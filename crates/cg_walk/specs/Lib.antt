pub mod Gets
pub mod Walk
pub mod Laws
