pub mod OptionLemmas
pub mod FoundLemmas
pub mod NumberLemmas
pub mod WordLemmas
pub mod SpellLemmas
