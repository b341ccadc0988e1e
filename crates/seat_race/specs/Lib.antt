pub mod Giving
pub mod Parts
pub mod Picks
pub mod Tables
