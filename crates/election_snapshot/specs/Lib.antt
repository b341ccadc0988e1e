pub mod Ballots
pub mod Draft
pub mod Kept
pub mod Snapshot
