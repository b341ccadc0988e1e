-- What a checkpoint is.
pub mod Layout
-- Proofs that it keeps the laws of a form.
pub mod LayoutLaws
pub mod Limits
