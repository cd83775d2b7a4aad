-- Laws of reading and storing numbers.
pub mod NumberLaws
