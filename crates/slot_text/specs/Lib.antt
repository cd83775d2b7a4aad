-- What is printed of a sheet's slots, and of its refusals 1 to 4.
pub mod Slots
pub mod Opened
