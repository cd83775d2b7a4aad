-- The sheet of document 01: blocks, checks, headers, slots, and refusals 1 to 4.
pub mod Number
pub mod Block
pub mod Check
pub mod Slot
pub mod Sound
pub mod Header
pub mod Sheet
pub mod First
pub mod Opening
pub mod Name
pub mod Steps
