pub mod Search
pub mod Depth
pub mod Solve
pub mod Demand2
pub mod Longer
pub mod Promises
pub mod inner
