-- The check of a block.
pub mod Check
pub mod Steps
