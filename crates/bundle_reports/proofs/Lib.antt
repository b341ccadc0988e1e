pub mod MineLaws
pub mod SoundLaws
pub mod ReportLaws
pub mod LongLaws
pub mod RewriteLaws
pub mod DemoLaws
