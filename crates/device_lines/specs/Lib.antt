pub mod Forms
pub mod Lines
pub mod Queue
pub mod Reports
