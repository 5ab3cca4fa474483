pub mod Accounting
pub mod Joining
pub mod MeaningLemmas
pub mod Steps
pub mod Shapes
pub mod Parts
pub mod Falls
