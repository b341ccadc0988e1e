pub mod BallotLemmas
pub mod HasLemmas
pub mod KeptLemmas
pub mod PlaceLemmas
pub mod RepeatLemmas
