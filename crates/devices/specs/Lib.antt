pub mod Device
pub mod Supply
pub mod Pages
-- private: how the code goes; no public contract names these
pub mod GhostTexts
pub mod PageFacts
