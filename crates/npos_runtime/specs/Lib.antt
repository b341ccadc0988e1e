pub mod Rules
pub mod Step
pub mod Genesis
pub mod Live
pub mod Life
pub mod History
pub mod Histories
pub mod Kept
