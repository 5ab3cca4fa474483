pub mod Characters
pub mod Shown
pub mod Sentences
pub mod Words
pub mod Hints
pub mod Marks
pub mod Faults
pub mod Reasons
pub mod Notes
pub mod Explaining
pub mod Printable
-- private: how the code goes; no public contract names these
pub mod Private
