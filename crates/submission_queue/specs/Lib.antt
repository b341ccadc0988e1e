pub mod Rank
pub mod Ranking
pub mod Laws
pub mod Numbers
