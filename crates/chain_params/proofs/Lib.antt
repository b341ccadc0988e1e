pub mod FaultLemmas
pub mod PhaseLemmas
