pub mod ListLemmas
pub mod NotedLemmas
pub mod KnownLemmas
pub mod RoundLemmas
pub mod CauseLemmas
pub mod RowLemmas
pub mod SoundLemmas
pub mod StateLemmas
