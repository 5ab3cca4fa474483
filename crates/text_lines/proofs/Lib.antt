pub mod Broken
mod Examples
pub mod FirstLine
pub mod Near
pub mod Slices
