-- What a call comes to: what was asked for, or a numbered refusal and its place.
pub mod Numbers
pub mod Outcome
pub mod Faults
pub mod Bounds
