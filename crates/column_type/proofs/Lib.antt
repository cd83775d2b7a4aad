-- What the proofs of several functions use, and the theorem of refusal 20.
pub mod FitsLaws
pub mod RefusalLaws
pub mod SlotLaws
pub mod KeptLaws
pub mod LeafLaws
pub mod LeafSheet
pub mod LeafTree
pub mod SpeltLaws
pub mod LawfulLaws
pub mod EditionLaws
pub mod Points
pub mod DecimalLaws
pub mod PlacementLaws
