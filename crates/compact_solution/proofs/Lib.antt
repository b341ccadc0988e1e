pub mod Readers
pub mod Writers
pub mod PackLemmas
pub mod GroupLemmas
pub mod WidthLemmas
pub mod FitLemmas
