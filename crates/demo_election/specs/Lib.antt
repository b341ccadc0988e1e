pub mod Begun
pub mod Generated
