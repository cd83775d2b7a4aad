-- Column types of document 01, and when a sheet has a leaf of one.
pub mod Lawful
pub mod Leaf
pub mod Steps
