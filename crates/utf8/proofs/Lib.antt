-- The laws of the crate's definitions, for its own proofs and for those of the crates above it.
pub mod SequenceLaws
pub mod ValidLaws
pub mod AsciiLaws
