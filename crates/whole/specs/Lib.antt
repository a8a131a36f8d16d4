pub mod Lists
pub mod Numbers
pub mod Ranges
pub mod Meaning
pub mod Promises
pub mod Quoted
pub mod inner
