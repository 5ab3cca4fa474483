pub mod Contents
mod Examples
pub mod MailLemmas
mod Feeding
pub mod Visited
pub mod Together
