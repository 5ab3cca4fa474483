-- the first value that matches a key
pub mod FirstMatch
-- the first value and key that match, and what a test finds
pub mod Findings
-- what comparing costs
pub mod Costs
-- the tests of headers
pub mod HeaderTests
-- the tests of the current part
pub mod PartTests
-- what all questions of simple tests come to
pub mod Questions
-- what asking them costs at most
pub mod QuestionCosts
-- where tests look, and what they select there
pub mod Selection
-- what the code hands over and what it is handed
pub mod Texts
pub mod Outcomes
-- what is kept of a value
pub mod Kept
-- private: how the code goes; no public contract names these
pub mod Headers
pub mod Readings
pub mod Bigrams
pub mod Private
