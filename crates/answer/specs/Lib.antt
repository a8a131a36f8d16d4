pub mod Output
pub mod Sheets
pub mod Said
pub mod Examples
pub mod Promises
pub mod inner
