pub mod Writing
pub mod Reporting
