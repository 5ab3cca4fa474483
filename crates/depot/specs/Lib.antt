pub mod Ending
pub mod Tasks
pub mod Batches
pub mod Programs
pub mod Looks
pub mod Told
pub mod Obstacles
-- private: how the code goes; no public contract names these
pub mod Private
pub mod Places
