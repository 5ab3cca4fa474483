pub mod Remaining
pub mod Following
pub mod Charging
pub mod Lines
