-- What a chain keeps between two blocks, and how another goes on from it.
pub mod Parts
pub mod State
pub mod Chain
pub mod Sound
pub mod Soundness
pub mod Laws
pub mod Restoring
pub mod Savable
pub mod Remade
