pub mod Execution
pub mod Evaluation
