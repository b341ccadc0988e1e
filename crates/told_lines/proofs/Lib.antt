pub mod DigitLemmas
pub mod PutLemmas
pub mod KeptLemmas
pub mod LineLemmas
