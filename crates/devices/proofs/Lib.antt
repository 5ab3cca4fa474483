pub mod Outputs
pub mod PageLemmas
