pub mod Limits
pub mod LimitedReading
pub mod Host
pub mod Requests
pub mod Printed
pub mod Limit
pub mod Tracing
pub mod Statuses
pub mod Jobs
pub mod Words
pub mod Inputs
pub mod Working
pub mod Usage
-- where names of files lead
pub mod Files
-- private: how the code goes; no public contract names these
pub mod Private
