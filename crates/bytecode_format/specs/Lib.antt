pub mod Operations
pub mod Questions
pub mod Code
pub mod Spelling
pub mod Modifiers
pub mod Selection
pub mod Action
pub mod Actions
-- private: how the code goes; no public contract names these
pub mod Readers
