pub mod VoteLemmas
pub mod DraftLemmas
