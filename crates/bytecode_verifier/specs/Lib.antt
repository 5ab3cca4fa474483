pub mod Places
pub mod Loops
pub mod Rows
pub mod Taken
pub mod Shape
pub mod Rules
pub mod Acceptance
pub mod Budget
-- how much a delivery files at most
pub mod Counting
-- private: how the code goes; no public contract names these
pub mod Nests
pub mod Pass
pub mod Noting
