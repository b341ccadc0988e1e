pub mod Passes
pub mod Run
pub mod Scores
pub mod Search
pub mod Laws
