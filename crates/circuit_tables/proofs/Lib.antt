pub mod BitLists
pub mod CutLemmas
pub mod ListLemmas
pub mod Narrow
pub mod NumberLemmas
