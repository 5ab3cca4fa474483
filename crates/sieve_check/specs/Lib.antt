-- What is wrong with a script, in words of which each says one thing:
--
-- a cause    what is wrong with one command or test, by its kind, with the tag, the string or the name that is at fault (Causes)
-- a reason   a cause with the name of its command or test, as that is written; it is refused, by its token (Causes)
-- a fault    which of the five rules a cause breaks, so which number it has: a function of its kind (Causes)
-- a refusal  what `check` answers: a fault with its token, or that memory was refused (Causes)
-- findings   what a walk has refused so far, with the names of variables that it met: of the code alone (Refusing)
-- a flaw     what may be wrong with a string by itself, whatever stands around it (Rules)
--
-- What is known of commands and tests is one row each in Rows, and of tags in TagRows. How arguments are read is in Signatures and
-- Arguments, what surrounds a command in Surroundings, and what is wrong with it in Rules. LeastFault says the fault alone, shortly.
pub mod Typed
pub mod Questions
pub mod Acts
pub mod TypedView
pub mod Extent
pub mod Variables
pub mod Bounded
pub mod Rows
pub mod TagRows
pub mod Names
pub mod Signatures
pub mod Surroundings
pub mod FormOf
pub mod Causes
pub mod Arguments
pub mod Rules
pub mod CheckedScript
pub mod ReasonView
pub mod LeastFault
-- private: how the code goes; no public contract names these
pub mod Refusing
pub mod Forming
pub mod Sequences
pub mod Reading
pub mod Private
