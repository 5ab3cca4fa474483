pub mod TellingLemmas
pub mod OneText
pub mod OwnStrings
pub mod Subjects
pub mod Marking
pub mod Pieces
pub mod Printing
pub mod NoteLemmas
pub mod Levels
pub mod Naming
pub mod Chains
pub mod Never
mod Examples
