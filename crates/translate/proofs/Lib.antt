-- What the proofs of several functions use, in reading order.

-- what the code comes to, from the first bytes to the caller's lists
pub mod BadBytes
pub mod EndedLines
pub mod VersionLine
pub mod WalkCode
pub mod NamesWritten
pub mod AcceptCode
pub mod TextCode
-- the public call: its contract read back, and the promises
pub mod AcceptedFronts
pub mod AnswerMeans
pub mod Once
pub mod Promises
