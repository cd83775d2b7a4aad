-- How a call of the C interface answers, and what a caller takes out of an answer.
pub mod Answers
pub mod Packing
