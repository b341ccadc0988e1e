pub mod GivingLemmas
pub mod InLemmas
pub mod NominatorLemmas
pub mod OrderLemmas
pub mod PaidLemmas
pub mod PartLemmas
pub mod PickLemmas
pub mod TableLemmas
