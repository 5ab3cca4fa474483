pub mod Lines
pub mod Examples
pub mod Pieces
pub mod Rooms
