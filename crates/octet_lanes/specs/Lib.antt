pub mod Encoding
pub mod Held
-- what operations on lanes give
pub mod Lanes
-- private: how the code goes; no public contract names these
pub mod Private
