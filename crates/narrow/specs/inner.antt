pub mod Done
pub mod Clause
pub mod Product
