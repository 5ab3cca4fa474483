pub mod Steps
pub mod Lines
pub mod Unique
pub mod Beginnings
pub mod Once
pub mod Numbers
pub mod Answered
pub mod Extent
