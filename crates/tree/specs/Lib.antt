-- The tree of document 01: trees, the rules they keep, and refusals 5 to 13.
pub mod Annotated
pub mod Tree
pub mod Rules
pub mod Layer
pub mod Reading
pub mod OpenPlaces
pub mod Faults
pub mod Judgement
pub mod Steps
pub mod Facts
