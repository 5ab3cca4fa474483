pub mod Lexemes
pub mod Tree
pub mod Grammar
pub mod TokenMachine
pub mod Faults
pub mod View
pub mod Refusals
pub mod Scripts
-- private: how the code goes; no public contract names these
pub mod Language
pub mod Parsing
