-- Laws of calls on boxes.
pub mod PromiseLaws
