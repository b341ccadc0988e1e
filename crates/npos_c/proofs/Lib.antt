pub mod YesLaws
pub mod JudgeLaws
