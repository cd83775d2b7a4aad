-- Definitions that speak of no crate's own subject.
pub mod Stretches
pub mod Bytes
