pub mod TextLemmas
pub mod FieldLemmas
pub mod Plain
pub mod PlainLines
pub mod StoredLemmas
pub mod MapLemmas
pub mod SlotLemmas
pub mod InOrder
pub mod AddLemmas
pub mod OutlineLemmas
pub mod CatalogLemmas
pub mod AgainLemmas
mod Examples
