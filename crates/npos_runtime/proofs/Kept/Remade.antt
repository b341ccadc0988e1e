-- The parts of a state, made anew.
pub mod ItemLemmas
pub mod ListLemmas
pub mod EraLemmas
pub mod PollLemmas
pub mod StateLemmas
