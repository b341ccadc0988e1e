pub mod Rules
pub mod Kept
pub mod Histories
