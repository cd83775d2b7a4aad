-- Laws that other crates cite, and those that the proofs here share.
pub mod ConversionLaws
pub mod SpellingLaws
pub mod ReadingLaws
