pub mod Breaks
pub mod Continuations
pub mod FieldLines
pub mod Steps
pub mod Trimming
pub mod Lengths
pub mod Measuring
pub mod Alone
pub mod Starts
pub mod FirstNamed
pub mod Hashing
mod Examples
