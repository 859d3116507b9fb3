-- What the crates above may cite, each module over those before it.

-- members, and the least degrees among them: there at the start, and kept by every step
pub mod Members
pub mod Least
pub mod LeastStep
pub mod Products
pub mod StartLeast
-- error locators, and the count of the votes
pub mod Lightest
pub mod Locators
pub mod Images
pub mod Counting
pub mod Voting
-- all steps
pub mod Remaining
pub mod AllSteps
-- the margins, and what is within reach
pub mod Margins
pub mod Read
