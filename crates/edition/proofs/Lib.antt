-- What is proved of editions.
pub mod EditionLaws
