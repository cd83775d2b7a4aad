-- What document 01 says of single values, in its order.
pub mod Numbers
pub mod Lengths
pub mod Annotations
pub mod Reading
pub mod Outcome
pub mod Promises
