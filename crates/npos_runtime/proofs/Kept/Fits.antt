-- What a chain keeps is in the range of its layout.
pub mod PartLemmas
pub mod BlockLemmas
pub mod EdgeLemmas
pub mod RowLemmas
pub mod PollLemmas
pub mod StateLemmas
