pub mod Denials
pub mod Limits
pub mod Offers
pub mod Search
pub mod Ways
