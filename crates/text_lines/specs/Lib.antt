pub mod Unread
pub mod Lines
