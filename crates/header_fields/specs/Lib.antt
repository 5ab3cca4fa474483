pub mod Fields
pub mod Header
pub mod Extent
pub mod Hashes
-- private: how the code goes; no public contract names these
pub mod Reading
