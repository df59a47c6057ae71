-- What an auditor reads: the specimens, and the demands as statements.
pub mod Questions
pub mod Specimens
pub mod Demand3
pub mod Demand2
pub mod ByContract
pub mod Code2
