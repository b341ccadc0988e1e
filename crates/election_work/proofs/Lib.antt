pub mod ReadingLemmas
pub mod ReadLaws
pub mod SpelledLaws
pub mod JudgedLaws
pub mod MinedLaws
pub mod MiningLaws
pub mod SoundLaws
