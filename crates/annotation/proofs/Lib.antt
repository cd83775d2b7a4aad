-- Laws that other crates cite, and those that the proofs here share.
pub mod OutcomeLaws
pub mod EditionLaws
mod TableLaws
mod PairLaws
mod PackedLaws
mod SlotLaws
pub mod PlacementLaws
pub mod RewritingLaws
mod SignedLaws
