pub mod ListingLemmas
pub mod NameLemmas
pub mod SaidLemmas
pub mod WorkingLemmas
pub mod SupplyLemmas
pub mod TraceLemmas
