pub mod Examples
pub mod Runs
pub mod Numbers
pub mod Words
pub mod Stretches
pub mod Extents
