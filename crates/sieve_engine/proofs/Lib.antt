pub mod EngineLemmas
pub mod Written
