pub mod IndexLemmas
pub mod StandLemmas
pub mod OrderLemmas
