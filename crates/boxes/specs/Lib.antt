-- What the contracts of `boxes` cite (document 02, R-11).
pub mod Coordinates
pub mod Points
pub mod Membership
pub mod Steps
pub mod Promises
