pub mod DepositLemmas
pub mod DecisionLemmas
pub mod SeatLemmas
pub mod VerdictLemmas
