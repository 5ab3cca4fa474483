pub mod Meaning
-- the meaning, told event by event
pub mod Traced
-- what a watcher of an evaluation is told
pub mod Watched
-- how the evaluator's fields stand for what a script has done: for an evaluation
pub mod Values
pub mod Evaluation
-- private: how the code goes; no public contract names these
pub mod Expanded
pub mod Private
