-- What is proved of the definitions, in reading order.

-- lists, tests, and one name for the definitions
pub mod Elements
pub mod Tests
pub mod Definitions
pub mod DefinitionSteps
-- names and plain trees
pub mod NamePlaces
pub mod NameLetters
pub mod PlainValues
-- the numbers of a problem, and pieces of it
pub mod FlatLists
pub mod Pieces
-- what a tree and a rule make, and what that means
pub mod TreeSizes
pub mod Operations
pub mod TreeValues
pub mod RuleClauses
pub mod Rules
pub mod RuleAsks
pub mod RuleSizes
pub mod Extension
pub mod NamedQuantities
pub mod HelpersDefined
-- line by line: the grounds that are not met, and what is carried on
pub mod Faultless
pub mod LineInduction
pub mod LinesSay
pub mod LineCarries
pub mod RangeLimits
pub mod LinesFit
-- the grounds, demand 3, and that an accepted sheet fits
pub mod LineGrounds
pub mod TextGrounds
pub mod Demand3
pub mod SolverGrounds
pub mod Fits
-- the promises
pub mod Promises
