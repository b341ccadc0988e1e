-- What SCALE is.
pub mod Form
pub mod Reason
pub mod Refusal
pub mod LittleEndian
pub mod Compact
pub mod Parts
pub mod Composite
pub mod Marked
pub mod Values
-- What the functions do, and what follows for every type.
pub mod Reading
pub mod Writing
pub mod CompactSteps
pub mod CompactRange
pub mod Laws
pub mod WholeReading
-- Proofs that each form keeps its laws. Only `read_as`, what bytes read as, is made from them.
pub mod TableLaws
pub mod FormLaws
pub mod PartLaws
pub mod RunLaws
pub mod MarkedLaws
pub mod AccountLaws
pub mod LittleEndianLaws
pub mod CompactSpellingLaws
pub mod CompactReadingLaws
pub mod CompactWritingLaws
pub mod CompactLaws
pub mod ValueLaws
pub mod DecidedLaws
