-- The texts that document 01's programs print, and what a buffer holds where one is stored in it.
pub mod Characters
pub mod Numbers
pub mod Lines
pub mod Refusals
pub mod Placing
pub mod Steps
