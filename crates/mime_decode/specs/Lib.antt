-- what the body of a part stands for
pub mod Content
pub mod Mail
pub mod Together
pub mod Refusals
-- the parts that loops visit
pub mod Visited
