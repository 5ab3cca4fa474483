pub mod PartTree
pub mod Readable
-- the types of long fields
pub mod TypeTexts
pub mod Refusals
-- where parts stand
pub mod Order
pub mod Together
pub mod Enclosing
-- private: how the code goes; no public contract names these
pub mod Runs
pub mod OpenParts
pub mod Reading
