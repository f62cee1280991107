pub mod Kind
pub mod Cut
pub mod Tokens
pub mod View
pub mod Lexing
