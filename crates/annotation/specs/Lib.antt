-- What the contracts of `annotation` cite, in the order of document 01. The first file that names a type of src/ says what it holds.
pub mod Signed
pub mod Meaning
pub mod Rule9
pub mod Rule10
pub mod Rule11
pub mod Kinds
pub mod Outcome
pub mod Rewriting
pub mod Pairs
pub mod Packed
pub mod Steps
