pub mod Shown
pub mod WordLemmas
pub mod PlaceLemmas
pub mod PieceLemmas
pub mod TokenLemmas
pub mod MediaLemmas
