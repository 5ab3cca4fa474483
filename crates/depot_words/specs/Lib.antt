pub mod Commands
pub mod Ranges
-- private: how the code goes; no public contract names these
pub mod Rows
