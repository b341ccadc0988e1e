pub mod AveragingLemmas
pub mod GivenEdgeLemmas
pub mod KeptLemmas
pub mod OneOrderLemmas
pub mod ScoreLemmas
pub mod SumLemmas
pub mod StakeLemmas
pub mod OrderLemmas
