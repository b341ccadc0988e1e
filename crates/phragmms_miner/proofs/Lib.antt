pub mod NarrowLemmas
pub mod RateLemmas
pub mod RunLemmas
pub mod ScoreLemmas
pub mod SameLemmas
pub mod OneLemmas
pub mod AnyLemmas
pub mod FewLemmas
