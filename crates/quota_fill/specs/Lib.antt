pub mod Backers
pub mod Chains
pub mod Filled
pub mod Kept
pub mod Laws
