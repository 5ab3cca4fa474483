pub mod Volumes
pub mod Beginning
pub mod Places
pub mod OnVolumes
pub mod Folders
pub mod Holding
pub mod Applying
-- private: how the code goes; no public contract names these
pub mod Private
