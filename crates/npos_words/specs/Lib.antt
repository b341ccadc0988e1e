pub mod Options
pub mod Found
pub mod Numbers
pub mod Words
pub mod Laws
