pub mod Bits
pub mod Pieces
pub mod Symbols
mod Tables
pub mod Texts
pub mod ReadBack
pub mod Lanes
pub mod Closing
pub mod Pairs
pub mod Relaned
pub mod Quanta
pub mod Reading
