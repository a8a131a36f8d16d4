pub mod Tests
pub mod Lists
pub mod Groups
pub mod Scanning
pub mod Placing
pub mod Unmet
pub mod Defining
pub mod Defined
