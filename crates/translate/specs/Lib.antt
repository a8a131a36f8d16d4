-- The public call: its contract, what its answer means, what is promised; and what only the code needs.
pub mod Translate
pub mod Meaning
pub mod Promises
pub mod inner
