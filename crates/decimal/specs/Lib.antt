-- What the contracts of `decimal` cite beside those of `decimal_bytes`: what its answers stand for, and numbers of up to 16 bytes.
pub mod Outcome
pub mod Within
pub mod Steps
