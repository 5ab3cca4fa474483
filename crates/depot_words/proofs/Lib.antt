pub mod AppLemmas
pub mod RangeLemmas
pub mod TableLemmas
pub mod Taking
