-- What is sound stays sound, part by part.
pub mod EntryLemmas
pub mod BooksLemmas
pub mod BagsLemmas
pub mod RolesLemmas
pub mod ErasLemmas
pub mod PollLemmas
pub mod SubmissionLemmas
pub mod ChainLemmas
