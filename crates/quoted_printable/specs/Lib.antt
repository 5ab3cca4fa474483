pub mod Pieces
pub mod QuotedPrintable
-- private: how the code goes; no public contract names these
pub mod Written
pub mod Private
