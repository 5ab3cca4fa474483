pub mod Classes
pub mod Chain
pub mod Separators
pub mod Strings
pub mod Texts
pub mod Values
pub mod Tokens
-- private: how the code goes; no public contract names these
pub mod Private
