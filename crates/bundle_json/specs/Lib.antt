pub mod Json
pub mod Shape
pub mod Text
pub mod Laws
pub mod Limits
