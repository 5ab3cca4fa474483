pub mod Captures
pub mod Comparison
pub mod Containment
pub mod Matching
pub mod Tokens
-- private: how the code goes; no public contract names these
pub mod Segments
