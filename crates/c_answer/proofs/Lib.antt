-- Laws of answers.
pub mod PackingLaws
pub mod OutputLaws
