mod WordLemmas
mod Spoken
mod Folding
mod Taking
mod Saying
mod Objects
mod LineLemmas
mod LineReading
mod Progress
mod Batches
mod Readying
mod Beginnings
pub mod Grouping
mod Closing
mod Replying
mod Rest
mod ClosingAnswers
mod Exporting
