pub mod Problem
pub mod Order
pub mod Lists
pub mod Grounds
pub mod Leading
pub mod inner
