pub mod Whole
pub mod Unfinished
pub mod Halving
pub mod Stepping
pub mod Lifting
pub mod Applied
pub mod Sought
pub mod Reading
pub mod Begun
pub mod Listed
mod Examples
