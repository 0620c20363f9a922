pub mod NeedsLemmas
pub mod MessageLemmas
pub mod SlotLemmas
pub mod PlainLemmas
pub mod KeyLemmas
