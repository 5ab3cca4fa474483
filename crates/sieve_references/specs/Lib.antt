pub mod References
pub mod SegmentView
pub mod WellFormed
-- private: how the code goes; no public contract names these
pub mod Reading
