-- an entry, and the place of a part
pub mod Rows
-- text that people chose, as JSON
pub mod Texts
-- the header fields of a message
pub mod Fields
-- which entries have the content of a part
pub mod Stored
-- the objects and their lines
pub mod Lines
-- what an index of entries and messages has
pub mod Index
-- the text of a catalog
pub mod Catalog
-- what is kept of an entry while a catalog is made
pub mod Keeping
-- private: what one part of a message adds to an index
pub mod Adding
-- private: which entries that were kept belong together
pub mod Making
