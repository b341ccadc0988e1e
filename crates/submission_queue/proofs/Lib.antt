pub mod RankLemmas
pub mod QueueLemmas
pub mod LawLemmas
pub mod NumberLemmas
