pub mod Gaps
pub mod Words
pub mod MediaValue
pub mod Encodings
-- private: how the code goes; no public contract names these
pub mod Reading
