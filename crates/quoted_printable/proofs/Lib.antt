pub mod Decoded
pub mod Encoded
mod Examples
pub mod Extended
pub mod Filling
pub mod Heads
mod Known
pub mod Pending
pub mod Held
pub mod Lengths
pub mod Pieced
pub mod ReadBack
pub mod Stretches
pub mod Rooms
