pub mod Users
pub mod Drafts
pub mod DepotState
-- how much a delivery files
pub mod Amounts
pub mod Causes
pub mod History
pub mod Deliveries
pub mod Applying
-- media types that stand on one line
pub mod PlainMedia
pub mod Runs
pub mod Overviews
-- how programs get the latest version
pub mod Renewing
-- private: how the code goes; no public contract names these
pub mod Filing
pub mod Delivering
pub mod KeptPrograms
pub mod Sources
pub mod Cataloguing
pub mod Private
