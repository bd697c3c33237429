pub mod ReportText
pub mod ReportLaw
