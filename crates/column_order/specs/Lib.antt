-- What document 01 says of the order of single values.
pub mod Keys
pub mod Values
pub mod Order
pub mod Comparison
pub mod Outcome
pub mod Promises
