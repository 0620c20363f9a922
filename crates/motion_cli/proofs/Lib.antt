pub mod ReportLemmas
pub mod DealerLemmas
pub mod LocalLemmas
pub mod TakenLemmas
pub mod SettledLemmas
pub mod WordsLemmas
pub mod PartsLemmas
pub mod CallLemmas
