pub mod Committees
pub mod Judgements
pub mod Reports
