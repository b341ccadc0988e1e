pub mod Buffers
pub mod Findings
pub mod Asked
pub mod Answers
pub mod Mining
pub mod Judging
pub mod Limits
