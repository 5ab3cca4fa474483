pub mod Lines
pub mod Causes
pub mod Scripts
