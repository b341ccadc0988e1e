-- No cause stands against the state of a sound chain.
pub mod RowLemmas
pub mod RoleLemmas
pub mod EraLemmas
pub mod QueueLemmas
pub mod SlashLemmas
pub mod PollLemmas
pub mod NoCauseLemmas
