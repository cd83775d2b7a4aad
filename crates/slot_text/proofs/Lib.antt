-- Laws of slots and refusals as text.
pub mod SlotLaws
pub mod OpenedLaws
pub mod Examples
