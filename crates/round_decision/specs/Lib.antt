pub mod Deposits
pub mod Decision
