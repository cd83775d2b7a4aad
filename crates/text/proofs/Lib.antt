-- Laws of numbers as text, of lines and of stored text.
pub mod PlacingLaws
pub mod NumberLaws
pub mod LineLaws
pub mod RefusalLaws
pub mod Examples
