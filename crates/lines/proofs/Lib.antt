-- What the proofs of several functions use, in reading order.

-- lists written from the front
pub mod ListFronts
pub mod PutBehind
pub mod Filling
-- what a tree writes: counts, flags, ranges, and its exact piece
pub mod TreeWrites
pub mod Flags
pub mod HelperRanges
pub mod WideFlag
pub mod ExactPiece
-- what a rule and a line leave in the lists
pub mod HeldRoom
pub mod RuleWrites
pub mod RuleDraft
pub mod RuleListed
pub mod RuleHeld
pub mod RangeHeld
-- what the code comes to, from a number in an expression to the line
pub mod ComputableRanges
pub mod HelperCode
pub mod FirstTokens
pub mod ExpressionCode
pub mod ComparisonCode
pub mod RuleCode
pub mod RangeLineCode
pub mod RuleLineCode
pub mod LineCode
