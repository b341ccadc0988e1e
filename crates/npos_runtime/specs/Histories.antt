-- What holds over whole histories of blocks.
pub mod Fates
pub mod Sums
pub mod Answers
pub mod Deposits
pub mod Seatings
pub mod Offers
pub mod Laws
pub mod Eras
pub mod Deferred
pub mod Promise
