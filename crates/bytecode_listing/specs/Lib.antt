pub mod Names
pub mod Wording
pub mod Listing
pub mod Tokens
pub mod Labels
pub mod Items
-- private: how the code goes; no public contract names these
pub mod Noted
pub mod Readers
