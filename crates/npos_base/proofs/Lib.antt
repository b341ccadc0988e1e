pub mod AccountBytes
pub mod AccountOrder
pub mod Appended
pub mod BigEndian
pub mod NumberTests
pub mod Refusals
pub mod EntryLemmas
pub mod MinerLaws
