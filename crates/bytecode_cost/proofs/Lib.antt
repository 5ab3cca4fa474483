pub mod Chains
mod Examples
pub mod Powers
