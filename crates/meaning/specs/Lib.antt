-- What a translation is, in reading order: trees, what they make, the draft of a problem, its lists, the grounds, demand 3, and what is promised.
pub mod Plain
pub mod Translation
pub mod Lists
pub mod Draft
pub mod Grounds
pub mod Refused
pub mod Demand3
pub mod Worked
pub mod Fits
pub mod Promises
