pub mod Fronts
pub mod Results
pub mod Causes
pub mod Reports
