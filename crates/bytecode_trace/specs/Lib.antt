-- the steps of a program's run
pub mod Steps
-- the line of a step, and the trace
pub mod Printed
-- private: how the code goes; no public contract names these
pub mod Private
