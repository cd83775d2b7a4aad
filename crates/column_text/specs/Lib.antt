-- What is printed of single values: document 01's outcomes as text.
pub mod Values
pub mod Answers
