-- Which nodes of two sheets match (document 02, R-1).
pub mod Facts
pub mod Matching
pub mod Nodes
pub mod Outcome
pub mod Steps
