pub mod Words
pub mod Asked
pub mod Lines
pub mod Turns
pub mod Said
pub mod Effects
pub mod Batch
pub mod Closings
-- private: how the code goes; no public contract names these
pub mod Answers
pub mod Private
