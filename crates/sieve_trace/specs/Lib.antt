-- where the tokens of a script stand
pub mod Places
-- the pieces of a text, as those of the tokens' places
pub mod Pieces
-- tests and actions in words
pub mod Words
-- the line of an event
pub mod Printed
-- what is written of a trace
pub mod Written
-- private: how the code goes; no public contract names these
pub mod Private
-- private: the laws of the printer
pub mod PrinterFacts
