-- The list of differences of two sheets, and rebuilding the second from it (document 02, R-1).
pub mod Entry
pub mod Differences
pub mod Listed
pub mod Paths
pub mod Outcome
pub mod Rebuilding
pub mod Steps
