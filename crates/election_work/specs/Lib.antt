pub mod Limits
pub mod Elections
pub mod Bundles
pub mod Growing
pub mod Findings
pub mod Mining
pub mod Sound
