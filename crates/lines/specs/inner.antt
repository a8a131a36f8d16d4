pub mod Emission
pub mod Comparisons
pub mod Stored
