pub mod ReadLemmas
pub mod Modes
pub mod PartLemmas
pub mod PenLemmas
pub mod ListLemmas
