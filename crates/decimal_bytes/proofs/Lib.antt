-- Laws that other crates cite, and those that the proofs here share.
mod Table
pub mod PrecisionLaws
pub mod UnsignedLaws
pub mod NumberLaws
pub mod OrderLaws
pub mod PowerLaws
pub mod BoundLaws
pub mod FitLaws
