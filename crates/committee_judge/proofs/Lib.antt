pub mod SeatingLemmas
pub mod ReportLemmas
