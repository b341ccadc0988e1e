pub mod Kept
pub mod Mined
