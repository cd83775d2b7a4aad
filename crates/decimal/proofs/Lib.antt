-- Laws that other crates cite, and those that the proofs here share.
pub mod WordLaws
pub mod WithinLaws
