-- What each call does, and each phase of a block.
pub mod Committee
pub mod Outcome
pub mod Ballots
pub mod Rounds
pub mod Lists
pub mod CallRule
pub mod BookCalls
pub mod ListCalls
pub mod Signed
pub mod Offices
pub mod Exposed
pub mod Deciding
pub mod Calls
pub mod Polling
