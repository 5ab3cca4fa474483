pub mod Hexadecimal
pub mod Readings
pub mod ReadBack
pub mod Pieces
