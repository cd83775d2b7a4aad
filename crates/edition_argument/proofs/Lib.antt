-- What is proved of editions in digits, and of a room that is filled.
pub mod SpellingLaws
pub mod InputLaws
