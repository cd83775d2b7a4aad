-- What a C caller may rely on of the whole library.
pub mod Promises
