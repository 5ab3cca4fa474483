pub mod Limits
pub mod Ascii
pub mod Blank
pub mod Escapes
pub mod Once
