-- What the readers and writers for tests report.
pub mod Reports
pub mod Connection
