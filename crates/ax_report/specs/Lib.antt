pub mod TokenReports
pub mod LogReports
pub mod Reports
