pub mod Beginnings
pub mod Gaps
pub mod Lists
pub mod Naming
