-- The promises to a C caller.
pub mod PromiseLaws
