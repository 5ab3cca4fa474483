pub mod Lengths
pub mod Numbers
pub mod Strings
pub mod Tables
pub mod Coding
-- private: how the code goes; no public contract names these
pub mod Growing
pub mod Putting
pub mod Aiming
