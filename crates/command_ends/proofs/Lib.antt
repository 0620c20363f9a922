pub mod AnswerLemmas
pub mod EndLemmas
pub mod ProgramLemmas
pub mod RefusalLemmas
pub mod StepLemmas
pub mod StoreLemmas
