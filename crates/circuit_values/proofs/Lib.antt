pub mod PlaceLemmas
pub mod LiteralLemmas
pub mod ReadLemmas
pub mod WidthLemmas
