pub mod Examples
pub mod Extents
pub mod Keeping
pub mod Lengths
pub mod NotContained
pub mod NotFitting
pub mod OneByOne
pub mod Onward
pub mod Pairs
pub mod QuestionLemmas
pub mod Scopes
mod SelectionExamples
pub mod TenCaptures
pub mod AskedFor
pub mod Asking
pub mod TypeTexts
pub mod Typing
