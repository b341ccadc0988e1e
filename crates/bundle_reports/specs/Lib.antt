pub mod Texts
pub mod Verdicts
pub mod Bundles
pub mod Mining
pub mod Tasks
pub mod Rewriting
pub mod Answer
pub mod Demo
