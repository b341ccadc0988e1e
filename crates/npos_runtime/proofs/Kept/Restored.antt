-- The parts of a chain that goes on from a state.
pub mod ListLemmas
pub mod BookLemmas
pub mod RoleLemmas
pub mod EraLemmas
pub mod PollLemmas
pub mod QueueLemmas
pub mod SlashLemmas
pub mod WholeLemmas
