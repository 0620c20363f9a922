pub mod TextLemmas
pub mod WordLemmas
pub mod LineLemmas
pub mod ReaderLemmas
pub mod ChainLemmas
pub mod JoinedLemmas
pub mod DecimalLemmas
