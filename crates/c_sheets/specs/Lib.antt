-- What calls on sheets promise.
pub mod Comparison
pub mod Promises
