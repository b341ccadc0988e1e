pub mod Solution
pub mod SolutionLaws
pub mod Decoded
pub mod Packing
pub mod Choosing
pub mod Widths
pub mod Limits
